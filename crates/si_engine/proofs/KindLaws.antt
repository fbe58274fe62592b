-- The accesses of a sound set's nodes: what sees, lacks or adds is of a grow table, what writes is of a plain one.
use Rattle.std.proofs.Common.{◌≡◌, ℕ, suc, ◌+◌, Bool, true, false, List, [], ◌∷◌, ◌⊎◌, inl, inr, refl, sym, subst, arith}
use Rattle.std.specs.Prelude.{Some, slice_get}
use Rattle.prog_tree.specs.declared.table.TableDecl.{TableDecl}
use Rattle.prog_tree.specs.Syntax.{ProgramTree, DraftTree}
use Rattle.prog_check.specs.declared.path.Access.{Access}
use Rattle.prog_check.specs.declared.path.Kind.{Kind}
use Rattle.prog_check.specs.declared.path.Kind.TheVariants.{Sees, Lacks, Writes, Adds}
use Rattle.prog_check.specs.declared.path.Path.{Path}
use Rattle.prog_check.specs.Paths.{routes, path_of, program_paths, paths_from, paths_of, accesses_along}
use Rattle.prog_check.specs.Sound.{IsSound}
use Rattle.prog_tree.proofs.Elements.{IsMember, member_either, member_mapped}
use Rattle.prog_paths.proofs.KindsFit.{KindFits, AccessFits, route_fits}
use Rattle.prog_paths.proofs.Programs.{member_at}

-- ---- a node is a path of a program

abbrev OfProgram : List TableDecl → ℕ → List ProgramTree → Path → Type 0
OfProgram tables first ps path =
    (n : ℕ) × (p : ProgramTree) × (slice_get ps n ≡ Some p) × IsMember path (program_paths tables (first + n) p)

of_program : (tables : List TableDecl) (first : ℕ) (ps : List ProgramTree) (path : Path) →
    IsMember path (paths_from tables first ps) → OfProgram tables first ps path
of_program tables first [] path h = absurd h
of_program tables first (p ∷ ps) path h =
    go (member_either path (program_paths tables first p) (paths_from tables (first + 1) ps) h)
    (of_program tables (first + 1) ps path)
  where
    here : first ≡ first + 0
    here = omega arith

    next : (n : ℕ) → (first + 1) + n ≡ first + suc n
    next n = omega arith

    go : IsMember path (program_paths tables first p) ⊎ IsMember path (paths_from tables (first + 1) ps) →
        (IsMember path (paths_from tables (first + 1) ps) → OfProgram tables (first + 1) ps path) →
        OfProgram tables first (p ∷ ps) path
    go (inl m) later = (0, p, refl, subst (λ (k : ℕ). IsMember path (program_paths tables k p)) here m)
    go (inr m) later =
        let k = later m in
        (suc k.0, k.1, k.2, subst (λ (n : ℕ). IsMember path (program_paths tables n k.1)) (next k.0) k.3)

-- each access of a node fits its table
pub access_fits : (set : DraftTree) → IsSound set → (x a : ℕ) (path : Path) (access : Access) →
    slice_get (paths_of set) x ≡ Some path → slice_get path.accesses a ≡ Some access → AccessFits set.tables access
access_fits set fine x a path access at_node at_access =
    let k = of_program set.tables 0 set.programs path (member_at (paths_of set) x path at_node) in
    let p = fine.programs k.0 k.1 k.2 in
    let r = member_mapped (path_of set.tables (0 + k.0) k.1.params) (routes 0 k.1.body) path k.3 in
    let member : IsMember access (accesses_along set.tables k.1.params 0 r.0.passed) =
    subst (λ (q : Path). IsMember access q.accesses) (sym r.2) (member_at path.accesses a access at_access) in
    route_fits set.tables k.1.params k.1.body p.grow_tables_stay r.0 r.1 access member

-- ---- what the kinds tell of a table

pub grows_by : (b : Bool) (kind : Kind) → KindFits b kind → (kind ≡ Sees) ⊎ (kind ≡ Lacks) ⊎ (kind ≡ Adds) → b ≡ true
grows_by true kind h k = refl
grows_by false kind h (inl e) = absurd (subst (λ (x : Kind). KindFits false x) e h)
grows_by false kind h (inr (inl e)) = absurd (subst (λ (x : Kind). KindFits false x) e h)
grows_by false kind h (inr (inr e)) = absurd (subst (λ (x : Kind). KindFits false x) e h)

pub plain_by : (b : Bool) (kind : Kind) → KindFits b kind → kind ≡ Writes → b ≡ true → ⊥
plain_by true kind h k e = subst (λ (x : Kind). KindFits true x) k h
plain_by false kind h k e = absurd (cc)
