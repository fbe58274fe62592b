-- Pairs of a plan whose exposed reads keeps cover.
use Rattle.std.specs.Prelude.{◌≡◌, ℕ, All, List, map, take, Option, Some, None, slice_get}
use Rattle.prog_tree.specs.Syntax.{DraftTree}
use Rattle.prog_check.specs.declared.path.Path.{Path}
use Rattle.prog_check.specs.Paths.{paths_of}
use Rattle.prog_check.specs.Sound.{IsSound}
use Rattle.repair_laws.specs.declared.plan.Pair.{Pair}
use Rattle.repair_laws.specs.Promoted.{IsPromoted}
use Rattle.repair_laws.specs.Refusals.{IsCoverable}
use Rattle.si_repair.specs.declared.repairs.fault.RepairFault.{RepairFault}
use Rattle.si_repair.specs.declared.repairs.promotion.CoverablePair.{CoverablePair}
use Rattle.si_repair.specs.Checking.{IsRefused}
use Rattle.si_repair.specs.Exposed.{AreExposed}
use Rattle.si_repair.specs.Obstacles.{IsObstacleFault}

-- the questions of a pair are those that are exposed
abbrev pub HasItsQuestions : List Path → CoverablePair → Type 0
HasItsQuestions nodes coverable = AreExposed nodes coverable.pair coverable.questions.items

-- and keeps cover its reads
abbrev pub HasCoverableReads : DraftTree → CoverablePair → Type 0
HasCoverableReads draft coverable = IsCoverable draft coverable.pair × HasItsQuestions (paths_of draft) coverable

abbrev pub pairs_of : List CoverablePair → List Pair
pairs_of coverable = map (λ c. c.pair) coverable

-- these are the pairs, each of which keeps cover
abbrev pub AreCoverable : DraftTree → List Pair → List CoverablePair → Type 0
AreCoverable draft pairs coverable = (pairs_of coverable ≡ pairs) × All (HasCoverableReads draft) coverable

-- all pairs of a plan, or, where no keeps cover a pair, those before it, and the fault of this one
abbrev pub AreGathered : DraftTree → List Pair → List CoverablePair → Option RepairFault → Type 0
AreGathered draft plan coverable None = AreCoverable draft plan coverable
AreGathered draft plan coverable (Some fault) =
    (n : ℕ) × (pair : Pair) × (slice_get plan n ≡ Some pair)
    × AreCoverable draft (take n plan) coverable × IsObstacleFault draft pair fault

-- with keeps for these pairs a draft is sound
abbrev pub IsSoundWith : DraftTree → List Pair → Type 0
IsSoundWith draft pairs = (result : DraftTree) × IsPromoted draft pairs result × IsSound result

-- or refused
abbrev pub IsRefusedWith : DraftTree → List Pair → Type 0
IsRefusedWith draft pairs = (result : DraftTree) × IsPromoted draft pairs result × IsRefused result
