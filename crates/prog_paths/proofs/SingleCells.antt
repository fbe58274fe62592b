-- On a draft's paths each access that changes or keeps is of a single cell, so the second access of a question is.
use Rattle.std.specs.Prelude.{◌≡◌, ℕ, ◌+◌, Bool, List, [], ◌∷◌, ◌++◌, map, Some, slice_get}
use Rattle.std.specs.List.{AllByRecursion}
use Rattle.std.proofs.lemmas.Option.{slice_get-get_or}
use Rattle.std.proofs.Common.{get_or, refl, subst, inl, inr, suc, zero}
use Rattle.prog_tree.specs.declared.table.TableDecl.{TableDecl}
use Rattle.prog_tree.specs.Syntax.{Name, KeyTree, One, Two, StatementTree, ProgramTree, DraftTree}
use Rattle.prog_tree.specs.Syntax as s
use Rattle.prog_check.specs.declared.path.Kind.{Kind}
use Rattle.prog_check.specs.declared.path.Kind.TheVariants.{Reads}
use Rattle.prog_check.specs.declared.path.Access.{Access}
use Rattle.prog_check.specs.declared.path.Path.{Path}
use Rattle.prog_check.specs.Accesses.{Columns, key_columns, range_columns, columns_of, next_unknown, kinds_at, access_of, accesses_of}
use Rattle.prog_check.specs.Paths.{Passed, Route, accesses_along, path_of, routes, program_paths, paths_from, paths_of}
use Rattle.prog_paths.specs.Meeting.{MayTouch, IsSingle, IsSingleSecond}
use Rattle.prog_paths.specs.StaticGraph.{IsAccessOf}
use Rattle.prog_paths.specs.Questions.{LawOfSingleChanges}

abbrev TouchesSingly : Access → Type 0
TouchesSingly a = MayTouch a → IsSingle a

-- ---- lists

pub all-append : {X : Type 0} (P : X → Type 0) (xs ys : List X) → AllByRecursion P xs → AllByRecursion P ys → AllByRecursion P (xs ++ ys)
all-append P [] ys h k = k
all-append P (x ∷ xs) ys h k = (h.0, all-append P xs ys h.1 k)

all-at : {X : Type 0} (P : X → Type 0) (xs : List X) → AllByRecursion P xs → (k : ℕ) (x : X) → slice_get xs k ≡ Some x → P x
all-at P [] h k x e = absurd (cc)
all-at P (y ∷ ys) h zero x e =
    let same : y ≡ x = cc in
    subst P same h.0
all-at P (y ∷ ys) h (suc k) x e = all-at P ys h.1 k x e

-- ---- statements

abbrev HasSingleColumns : Columns → Type 0
HasSingleColumns c = (c.first.low ≡ c.first.high) × IsSingleSecond c.second

key-single : (params : List Name) (unknown : ℕ) (key : KeyTree) → HasSingleColumns (key_columns params unknown key)
key-single params unknown (One a) = (refl, tt)
key-single params unknown (Two a b) = (refl, refl)

accesses-single : (tables : List TableDecl) (sure : Bool) (number : ℕ) (statement : StatementTree) (c : Columns) → HasSingleColumns c → (kinds : List Kind) → AllByRecursion TouchesSingly (map (access_of tables sure number statement c) kinds)
accesses-single tables sure number statement c h [] = tt
accesses-single tables sure number statement c h (k ∷ ks) = (λ m. h, accesses-single tables sure number statement c h ks)

reads-touch : (a : Access) → a.kind ≡ Reads → TouchesSingly a
reads-touch a e (inl h) = absurd (cc)
reads-touch a e (inr (inl h)) = absurd (cc)
reads-touch a e (inr (inr h)) = absurd (cc)

statement-single : (tables : List TableDecl) (params : List Name) (unknown : ℕ) (sure : Bool) (number : ℕ) (statement : StatementTree) → AllByRecursion TouchesSingly (accesses_of tables params unknown sure number statement)
statement-single tables params unknown sure number (s.Get x table key e) = accesses-single tables sure number (s.Get x table key e) (key_columns params unknown key) (key-single params unknown key) (kinds_at tables (s.Get x table key e))
statement-single tables params unknown sure number (s.Need x table key) = accesses-single tables sure number (s.Need x table key) (key_columns params unknown key) (key-single params unknown key) (kinds_at tables (s.Need x table key))
statement-single tables params unknown sure number (s.Count x table range) =
    (reads-touch (access_of tables sure number (s.Count x table range) (range_columns params unknown range) Reads) refl, tt)
statement-single tables params unknown sure number (s.Sum x table range) =
    (reads-touch (access_of tables sure number (s.Sum x table range) (range_columns params unknown range) Reads) refl, tt)
statement-single tables params unknown sure number (s.Lacks table key) = accesses-single tables sure number (s.Lacks table key) (key_columns params unknown key) (key-single params unknown key) (kinds_at tables (s.Lacks table key))
statement-single tables params unknown sure number (s.Put table key e) = accesses-single tables sure number (s.Put table key e) (key_columns params unknown key) (key-single params unknown key) (kinds_at tables (s.Put table key e))
statement-single tables params unknown sure number (s.Delete table key) = accesses-single tables sure number (s.Delete table key) (key_columns params unknown key) (key-single params unknown key) (kinds_at tables (s.Delete table key))
statement-single tables params unknown sure number (s.Insert table key e) = accesses-single tables sure number (s.Insert table key e) (key_columns params unknown key) (key-single params unknown key) (kinds_at tables (s.Insert table key e))
statement-single tables params unknown sure number (s.Keep table key) = accesses-single tables sure number (s.Keep table key) (key_columns params unknown key) (key-single params unknown key) (kinds_at tables (s.Keep table key))
statement-single tables params unknown sure number (s.Bind x e) = tt
statement-single tables params unknown sure number (s.Reply e) = tt
statement-single tables params unknown sure number s.Abort = tt

-- ---- paths

along-single : (tables : List TableDecl) (params : List Name) (unknown : ℕ) (passed : List Passed) → AllByRecursion TouchesSingly (accesses_along tables params unknown passed)
along-single tables params unknown [] = tt
along-single tables params unknown (p ∷ later) =
    all-append TouchesSingly (accesses_of tables params unknown p.sure p.number p.statement) (accesses_along tables params (next_unknown unknown (columns_of params unknown p.statement)) later)
    (statement-single tables params unknown p.sure p.number p.statement) (along-single tables params (next_unknown unknown (columns_of params unknown p.statement)) later)

abbrev HasSingleCovers : Path → Type 0
HasSingleCovers path = AllByRecursion TouchesSingly path.accesses

routes-single : (tables : List TableDecl) (program : ℕ) (params : List Name) (rs : List Route) → AllByRecursion HasSingleCovers (map (path_of tables program params) rs)
routes-single tables program params [] = tt
routes-single tables program params (r ∷ rs) = (along-single tables params 0 r.passed, routes-single tables program params rs)

paths-single : (tables : List TableDecl) (program : ℕ) (programs : List ProgramTree) → AllByRecursion HasSingleCovers (paths_from tables program programs)
paths-single tables program [] = tt
paths-single tables program (p ∷ ps) =
    all-append HasSingleCovers (program_paths tables program p) (paths_from tables (program + 1) ps)
    (routes-single tables program p.params (routes 0 p.body)) (paths-single tables (program + 1) ps)

pub law_of_single_cells : (draft : DraftTree) (x a : ℕ) (access : Access) → IsAccessOf (paths_of draft) x a access → MayTouch access → IsSingle access
law_of_single_cells draft x a access (path, is, got) =
    all-at TouchesSingly path.accesses (all-at HasSingleCovers (paths_of draft) (paths-single draft.tables 0 draft.programs) x path is) a access got

-- ---- each path

pub law_of_single_changes : LawOfSingleChanges
law_of_single_changes draft k d lt a e inside may =
    let path : Path = get_or (paths_of draft) k d in
    law_of_single_cells draft k a (get_or path.accesses a e) (path, slice_get-get_or (paths_of draft) k d lt, slice_get-get_or path.accesses a e inside) may
