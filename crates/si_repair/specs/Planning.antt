-- A plan in the making: which programs close a dangerous structure, and which of these the plan leaves open.
use Rattle.std.specs.Prelude.{◌≡◌, ◌↔◌, ℕ, ◌<◌, ◌⊎◌, List, Any, Contains, Some, slice_get}
use Rattle.std.specs.declared.vec.Vec.{Vec}
use Rattle.std.specs.declared.alloc.Global.{Global}
use Rattle.prog_check.specs.declared.path.Path.{Path}
use Rattle.prog_paths.specs.StaticGraph.{StaticEdge, IsVulnerable, IsDangerousAt}
use Rattle.repair_laws.specs.declared.plan.Pair.{Pair}
use Rattle.repair_laws.specs.Striking.{IsOfProgram, IsPairBefore}
use Rattle.repair_laws.specs.Closing.{Closes, pair_from, IsPlanFor}
use Rattle.si_repair.specs.declared.plans.closing.ProgramTriple.{ProgramTriple}

-- ---- nodes

-- the list has just the nodes that are paths of a program
abbrev pub AreNodesOf : List Path → ℕ → List ℕ → Type 0
AreNodesOf nodes program xs = (x : ℕ) → Contains xs x ↔ IsOfProgram nodes program x

-- paths, and the number of programs whose nodes are listed
pub record NodesBy : Type 0 where
  pub paths : List Path
  pub programs : ℕ

-- for each program its list has just its nodes
abbrev pub AreListedBy : List Path → List (Vec ℕ Global) → Type 0
AreListedBy nodes lists =
    (program : ℕ) (list : Vec ℕ Global) → slice_get lists program ≡ Some list → AreNodesOf nodes program list.items

-- the paths are those of so many programs
abbrev pub AreOfPrograms : ℕ → List Path → Type 0
AreOfPrograms programs nodes = (x program : ℕ) → IsOfProgram nodes program x → program < programs

-- one of the nodes ends a dangerous structure behind x and y
abbrev pub EndsIn : List Path → ℕ → ℕ → List ℕ → Type 0
EndsIn nodes x y thirds = Any (λ z. IsDangerousAt (StaticEdge nodes) (IsVulnerable nodes) x y z) thirds

-- a dangerous structure begins with x, and has its other nodes in these lists
abbrev pub GoesOnIn : List Path → ℕ → List ℕ → List ℕ → Type 0
GoesOnIn nodes x seconds thirds = Any (λ y. EndsIn nodes x y thirds) seconds

-- a dangerous structure has its nodes in these lists
abbrev pub BeginsIn : List Path → List ℕ → List ℕ → List ℕ → Type 0
BeginsIn nodes firsts seconds thirds = Any (λ x. GoesOnIn nodes x seconds thirds) firsts

-- ---- triples

abbrev pub first_pair : ProgramTriple → Pair
first_pair t = pair_from t.first t.second

abbrev pub second_pair : ProgramTriple → Pair
second_pair t = pair_from t.second t.third

-- paths of the three programs make a dangerous structure
abbrev pub ClosesTriple : List Path → ProgramTriple → Type 0
ClosesTriple nodes t = Closes nodes t.first t.second t.third

-- the triple closes a structure behind a pair, and its third program has a number below a bound
abbrev pub ClosesBehind : List Path → Pair → ℕ → ProgramTriple → Type 0
ClosesBehind nodes pair bound t = (first_pair t ≡ pair) × (t.third < bound) × ClosesTriple nodes t

-- the triple closes a structure, begins with a program, and its others have numbers below bounds
abbrev pub ClosesFrom : List Path → ℕ → ℕ → ℕ → ProgramTriple → Type 0
ClosesFrom nodes first bound programs t =
    (t.first ≡ first) × (t.second < bound) × (t.third < programs) × ClosesTriple nodes t

-- the new list has what the old one has, and the triples of which P holds
abbrev pub AddsTriples : (old new : List ProgramTriple) → (P : ProgramTriple → Type 0) → Type 0
AddsTriples old new P = (t : ProgramTriple) → Contains new t ↔ (Contains old t ⊎ P t)

-- the list has just the triples of so many programs that close a structure
abbrev pub AreClosing : List Path → ℕ → List ProgramTriple → Type 0
AreClosing nodes programs triples =
    (t : ProgramTriple)
    → Contains triples t
    ↔ ((t.first < programs) × (t.second < programs) × (t.third < programs) × ClosesTriple nodes t)

-- ---- turns

-- neither pair of a triple stands behind this one
abbrev pub IsAtTurn : Pair → ProgramTriple → Type 0
IsAtTurn turn t = (IsPairBefore turn (first_pair t) → ⊥) × (IsPairBefore turn (second_pair t) → ⊥)

-- a triple is left neither of whose pairs stands behind this one
abbrev pub IsOpenAtTurn : List ProgramTriple → Pair → Type 0
IsOpenAtTurn triples turn = Any (IsAtTurn turn) triples

-- neither pair of a triple is this one
abbrev pub LacksPair : Pair → ProgramTriple → Type 0
LacksPair pair t = (first_pair t ≡ pair → ⊥) × (second_pair t ≡ pair → ⊥)

-- the triples of a list that lack a pair
abbrev pub AreWithout : List ProgramTriple → Pair → List ProgramTriple → Type 0
AreWithout triples pair rest = (t : ProgramTriple) → Contains rest t ↔ (Contains triples t × LacksPair pair t)

-- a pair's turn has been
abbrev pub IsBeforeTurn : (turn : Pair) → Pair → Type 0
IsBeforeTurn turn pair = IsPairBefore pair turn

-- neither pair of a triple is in the plan
abbrev pub IsOutside : List Pair → ProgramTriple → Type 0
IsOutside plan t = (Contains plan (first_pair t) → ⊥) × (Contains plan (second_pair t) → ⊥)

-- The list is the plan as far as these pairs go, and the triples are those that close a structure without it. Each has
-- a pair whose turn is still to come.
pub record IsPartialPlan (nodes : List Path) (plan : List Pair) (triples : List ProgramTriple)
    (done : Pair → Type 0) : Type 0 where
  pub is_plan : IsPlanFor nodes plan done
  pub are_left : (t : ProgramTriple) → Contains triples t ↔ (ClosesTriple nodes t × IsOutside plan t)
  pub ahead : (t : ProgramTriple) → Contains triples t → done (first_pair t) → done (second_pair t) → ⊥
