-- What the chains of an entry show of its question.
use Rattle.std.proofs.Common.{◌≡◌, ℕ, ◌-◌, List, [], ◌∷◌, length, subst, sym, arith}
use Rattle.std.specs.Prelude.{Some, slice_get, All}
use Rattle.std.proofs.lemmas.Option.{same_Some, none-some, slice_get_within, get_or_from_slice_get}
use Rattle.order_facts.specs.declared.steps.Node.{Node}
use Rattle.order_facts.specs.declared.steps.Fact.{Fact}
use Rattle.order_facts.specs.Chain.{Entails, last_of, RunsBetween}
use Rattle.order_facts.proofs.Chains.{reaches-from_chain}
use Rattle.order_facts.proofs.Exact.{Entails-from_reaches}
use Rattle.prog_check.specs.declared.path.Term.{Term}
use Rattle.prog_check.specs.declared.path.Access.{Access}
use Rattle.prog_check.specs.declared.path.Path.{Path}
use Rattle.prog_paths.specs.Meeting.{MayTouch, IsSingle}
use Rattle.prog_paths.specs.StaticGraph.{IsAccessOf}
use Rattle.prog_paths.specs.Shown.{Runs, ShowEqual, AllEqual}
use Rattle.prog_paths.specs.Questions.{ChangesSingleCells}
use Rattle.prog_paths.proofs.Shown.{single_at}

entailed : (facts : List Fact) (from to : Node) (chain : List Node) → Runs facts from to chain → Entails facts from to
entailed facts from to chain r = Entails-from_reaches facts from to (reaches-from_chain facts from to chain r.0 r.1)

-- chains there and back put the terms of each pair at most each other
pub AllEqual-from_ShowEqual : (facts : List Fact) (pairs : List (Term × Term)) (chains : List (List Node)) → ShowEqual facts pairs chains → AllEqual facts pairs
AllEqual-from_ShowEqual facts [] chains h = tt
AllEqual-from_ShowEqual facts (p ∷ ps) [] h = absurd h
AllEqual-from_ShowEqual facts (p ∷ ps) (there ∷ []) h = absurd h
AllEqual-from_ShowEqual facts (p ∷ ps) (there ∷ back ∷ chains) h =
    ((entailed facts _ _ there h.0, entailed facts _ _ back h.1), AllEqual-from_ShowEqual facts ps chains h.2)

-- what changes or keeps is one cell
pub single_of : (nodes : List Path) → All ChangesSingleCells nodes → (x a : ℕ) (access : Access) → IsAccessOf nodes x a access → MayTouch access → IsSingle access
single_of nodes single x a access at may =
    let inside = slice_get_within nodes x at.0 at.1 in
    let own = subst ChangesSingleCells (get_or_from_slice_get nodes x at.0 at.0 at.1) (single x at.0 inside) in
    single_at at.0 a access own at.2 may

-- ---- the ends of a chain

last_at : (a : Node) (rest : List Node) (y : Node) → slice_get (a ∷ rest) (length rest) ≡ Some y → last_of a rest ≡ y
last_at a [] y e = same_Some a y e
last_at a (b ∷ rest) y e = last_at b rest y e

pub runs-from_ends : (chain : List Node) (x y : Node) → Some x ≡ slice_get chain 0 → Some y ≡ slice_get chain (length chain - 1) → RunsBetween x y chain
runs-from_ends [] x y first last = absurd (none-some x (sym first))
runs-from_ends (a ∷ rest) x y first last =
    let n : length (a ∷ rest) - 1 ≡ length rest = omega arith in
    (same_Some a x (sym first), last_at a rest y (subst (λ (k : ℕ). slice_get (a ∷ rest) k ≡ Some y) n (sym last)))
