-- Statements in front of programs.
use Rattle.std.proofs.Common.{◌≡◌, ℕ, suc, ◌+◌, ◌<◌, Bool, true, false, List, [], ◌∷◌, ◌++◌, map, length, get_or, take, refl, sym, ap, subst, ◌∙◌, arith}
use Rattle.std.specs.Prelude.{Option, Some, None, option_map, slice_get, if◌then◌else◌, ◌==◌, All}
use Rattle.std.specs.List.{flat_map}
use Rattle.std.proofs.lemmas.Bool.{eqb-true}
use Rattle.std.proofs.lemmas.List.Elements.{All-nil, All-cons}
use Rattle.std.proofs.lemmas.List.{get_or-map, length-map, length-take-le, map-append, take_more}
use Rattle.std.proofs.lemmas.Option.{slice_get-get_or, slice_get-map}
use Rattle.prog_tree.specs.Syntax.{StatementTree, BlockTree, BlockEnd, Then, StmtTree, Plain, block_from, ProgramTree, DraftTree}
use Rattle.prog_tree.specs.Tree.{stmt_tree, with_stmt, with_stmts, stmts_tree, program_tree}
use Rattle.prog_tree.specs.declared.stmt.Stmt.{Stmt}
use Rattle.prog_tree.specs.declared.program.Program.{Program}
use Rattle.prog_check.specs.declared.path.Path.{Path}
use Rattle.prog_check.specs.Paths.{paths_of}
use Rattle.repair_laws.specs.declared.plan.NewTable.{NewTable}
use Rattle.repair_laws.specs.declared.plan.Pair.{Pair}
use Rattle.repair_laws.specs.Keys.{IsKeyOf}
use Rattle.repair_laws.specs.Materialised.{first_of, second_of, is_one, keeps_for, in_front, count_params, params_of, with_front, all_with_front, HasKey, kept_columns}
use Rattle.repair_laws.specs.Front.{IsColumn, HasColumns, HaveColumns}

-- ---- statements in front of a block

pub with_stmts-append : (ss ts : List Stmt) (rest : BlockTree) → with_stmts (ss ++ ts) rest ≡ with_stmts ss (with_stmts ts rest)
with_stmts-append [] ts rest = refl
with_stmts-append (s ∷ ss) ts rest = ap (with_stmt s) (with_stmts-append ss ts rest)

-- statements by what they mean, in front of a block
abbrev before : List StmtTree → BlockTree → BlockTree
before [] rest = rest
before (x ∷ xs) rest = block_from x (before xs rest)

before-stmts : (ss : List Stmt) (rest : BlockTree) → with_stmts ss rest ≡ before (map stmt_tree ss) rest
before-stmts [] rest = refl
before-stmts (s ∷ ss) rest = ap (with_stmt s) (before-stmts ss rest)

before-plain : (keeps : List StatementTree) (rest : BlockTree) → before (map Plain keeps) rest ≡ in_front keeps rest
before-plain [] rest = refl
before-plain (k ∷ ks) rest = ap (Then k) (before-plain ks rest)

-- statements that are these keeps stand in front as they do
pub keeps-front : (ss : List Stmt) (keeps : List StatementTree) (rest : BlockTree) → map stmt_tree ss ≡ map Plain keeps → with_stmts ss rest ≡ in_front keeps rest
keeps-front ss keeps rest e = before-stmts ss rest ∙ ap (λ xs. before xs rest) e ∙ before-plain keeps rest

pub block_front : (front stmts : List Stmt) (xs : List StatementTree) → map stmt_tree front ≡ map Plain xs → stmts_tree (front ++ stmts) ≡ in_front xs (stmts_tree stmts)
block_front front stmts xs e = with_stmts-append front stmts BlockEnd ∙ keeps-front front xs (stmts_tree stmts) e

-- ---- programs

-- a copy of a program, behind the keeps of all pairs
pub program_front :
    (made : List NewTable) (number : ℕ) (copy program : Program) (front all : List Stmt)
    → program_tree copy ≡ program_tree program
    → map stmt_tree front ≡ map Plain (flat_map (keeps_for number program.params.items) made)
    → all ≡ front ++ copy.body.stmts.items
    → stmts_tree all ≡ in_front (flat_map (keeps_for number program.params.items) made) (stmts_tree program.body.stmts.items)
program_front made number copy program front all same kept joined =
    let keeps = flat_map (keeps_for number program.params.items) made in
    ap stmts_tree joined ∙ block_front front copy.body.stmts.items keeps kept ∙ ap (λ (p : ProgramTree). in_front keeps p.body) same

pub all_with_front-push : (made : List NewTable) (n : ℕ) (ps : List ProgramTree) (p : ProgramTree)
    → all_with_front made n (ps ++ p ∷ []) ≡ all_with_front made n ps ++ with_front made (n + length ps) p ∷ []
all_with_front-push made n [] p = let e : n ≡ n + 0 = omega arith in ap (λ k. with_front made k p ∷ []) e
all_with_front-push made n (q ∷ ps) p =
    let e : n + 1 + length ps ≡ n + suc (length ps) = omega arith in
    ap (λ l. with_front made n q ∷ l) (all_with_front-push made (n + 1) ps p ∙ ap (λ k. all_with_front made (n + 1) ps ++ with_front made k p ∷ []) e)

-- ---- columns

pub columns_at : (programs : List Program) (made : List NewTable) (n : ℕ) (p : Program) → HaveColumns (map program_tree programs) made → n < length programs → p ≡ get_or programs n p → All (HasColumns n (length p.params.items)) made
columns_at programs made n p have inside at = have n (program_tree p) (slice_get-map program_tree programs n ∙ ap (option_map program_tree) (slice_get-get_or programs n p inside ∙ ap Some (sym at)))

-- what holds of all pairs holds of one
pub met_at : (P : NewTable → Type 0) (made : List NewTable) (n : ℕ) (m : NewTable) → n < length made → m ≡ get_or made n m → All P made → P m
met_at P made n m inside at all = subst P (sym at) (all n m inside)

-- one more program
pub programs_more :
    (made : List NewTable) (programs old new : List Program) (n : ℕ) (p repaired : Program)
    → n < length programs → p ≡ get_or programs n p → new ≡ old ++ repaired ∷ []
    → program_tree repaired ≡ with_front made n (program_tree p)
    → map program_tree old ≡ all_with_front made 0 (take n (map program_tree programs))
    → map program_tree new ≡ all_with_front made 0 (take (n + 1) (map program_tree programs))
programs_more made programs old new n p repaired inside at added own so_far =
    let trees = map program_tree programs in
    let within : n < length trees = subst (λ (k : ℕ). n < k) (sym (length-map programs program_tree)) inside in
    let read : get_or trees n (program_tree p) ≡ program_tree p = get_or-map program_tree programs n p (program_tree p) inside ∙ ap program_tree (sym at) in
    let next : take (n + 1) trees ≡ take n trees ++ program_tree p ∷ [] = take_more trees n (program_tree p) within ∙ ap (λ (t : ProgramTree). take n trees ++ t ∷ []) read in
    let place : 0 + length (take n trees) ≡ n = let l = length-take-le n trees (omega arith) in omega (arith, l) in
    ap (map program_tree) added ∙ map-append program_tree old (repaired ∷ [])
    ∙ (λ i. so_far i ++ own i ∷ [])
    ∙ ap (λ (k : ℕ). all_with_front made 0 (take n trees) ++ with_front made k (program_tree p) ∷ []) (sym place)
    ∙ sym (all_with_front-push made 0 (take n trees) (program_tree p))
    ∙ ap (all_with_front made 0) (sym next)

-- the parameters of a key are those of its programs
first-inside : (nodes : List Path) (pair : Pair) (firsts seconds : ℕ) (k : Option (ℕ × ℕ)) → IsKeyOf nodes pair firsts seconds k → IsColumn firsts (first_of k)
first-inside nodes pair firsts seconds None h = tt
first-inside nodes pair firsts seconds (Some k) h = h.first_inside

second-inside : (nodes : List Path) (pair : Pair) (firsts seconds : ℕ) (k : Option (ℕ × ℕ)) → IsKeyOf nodes pair firsts seconds k → IsColumn seconds (second_of k)
second-inside nodes pair firsts seconds None h = tt
second-inside nodes pair firsts seconds (Some k) h = h.second_inside

-- so each program has the parameters that it keeps
columns_of : (draft : DraftTree) (n : ℕ) (p : ProgramTree) → slice_get draft.programs n ≡ Some p → (m : NewTable) → HasKey draft m → HasColumns n (length p.params) m
columns_of draft n p at m key = go (m.pair.from == n) refl (m.pair.to == n) refl
  where
    own : params_of draft n ≡ length p.params
    own = ap count_params at

    first : (m.pair.from == n) ≡ true → IsColumn (length p.params) (first_of m.key)
    first e = subst (λ (count : ℕ). IsColumn count (first_of m.key)) (ap (params_of draft) (eqb-true m.pair.from n e) ∙ own) (first-inside (paths_of draft) m.pair (params_of draft m.pair.from) (params_of draft m.pair.to) m.key key)

    second : (m.pair.to == n) ≡ true → IsColumn (length p.params) (second_of m.key)
    second e = subst (λ (count : ℕ). IsColumn count (second_of m.key)) (ap (params_of draft) (eqb-true m.pair.to n e) ∙ own) (second-inside (paths_of draft) m.pair (params_of draft m.pair.from) (params_of draft m.pair.to) m.key key)

    one : (column : Option ℕ) → IsColumn (length p.params) column → All (IsColumn (length p.params)) (column ∷ [])
    one column h = All-cons (IsColumn (length p.params)) column [] h (All-nil (IsColumn (length p.params)))

    both : (m.pair.from == n) ≡ true → (m.pair.to == n) ≡ true → (c : Bool) → All (IsColumn (length p.params)) (if c then first_of m.key ∷ [] else first_of m.key ∷ second_of m.key ∷ [])
    both e f true = one (first_of m.key) (first e)
    both e f false = All-cons (IsColumn (length p.params)) (first_of m.key) (second_of m.key ∷ []) (first e) (one (second_of m.key) (second f))

    go : (a : Bool) → (m.pair.from == n) ≡ a → (b : Bool) → (m.pair.to == n) ≡ b → All (IsColumn (length p.params)) (kept_columns a b m.key)
    go true e true f = both e f (is_one m.key)
    go true e false f = one (first_of m.key) (first e)
    go false e true f = one (second_of m.key) (second f)
    go false e false f = All-nil (IsColumn (length p.params))
