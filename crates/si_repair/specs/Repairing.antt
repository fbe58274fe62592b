-- What is owed of a repaired set, and of a plan that is not carried out.
use Rattle.std.specs.Prelude.{◌≡◌, ℕ, ◌<◌, List, length, Some, slice_get}
use Rattle.prog_tree.specs.Syntax.{DraftTree}
use Rattle.prog_check.specs.Paths.{paths_of}
use Rattle.prog_paths.specs.Questions.{questions_of}
use Rattle.prog_paths.specs.StaticGraph.{IsDangerous}
use Rattle.repair_laws.specs.declared.plan.Pair.{Pair}
use Rattle.repair_laws.specs.Meaning.{KeepsAllMeaning}
use Rattle.repair_laws.specs.Plans.{IsPlan}
use Rattle.repair_laws.specs.Refusals.{StopReason, IsFirstStop}
use Rattle.repair_laws.specs.Refusals as why
use Rattle.si_repair.specs.declared.repairs.fault.RepairFault.{RepairFault}
use Rattle.si_repair.specs.declared.repairs.fault.RepairFault.TheVariants.{RangeRead, UnknownKey, BodyRead, TooMany, Memory}

-- both numbers are those of programs
abbrev pub IsInRange : DraftTree → Pair → Type 0
IsInRange draft pair = (pair.from < length draft.programs) × (pair.to < length draft.programs)

-- the new set means the same, is robust if the plan is the old one's, and asks as many questions
pub record IsSafeRepair (old : DraftTree) (plan : List Pair) (new : DraftTree) : Type 0 where
  pub meaning : KeepsAllMeaning old new
  pub robust : IsPlan (paths_of old) plan → ¬ IsDangerous (paths_of new)
  pub questions : length (questions_of (paths_of new)) ≡ length (questions_of (paths_of old))

-- no pair of the plan stops it
abbrev pub StopsNowhere : (Stops : ℕ → Pair → StopReason → Type 0) → List Pair → Type 0
StopsNowhere Stops plan =
    (n : ℕ) (pair : Pair) (reason : StopReason) → slice_get plan n ≡ Some pair → Stops n pair reason → ⊥

-- a plan is carried out: the new set is what it makes of the old one, and no pair of it stops it
pub record IsCarriedOut (Makes : DraftTree → List Pair → DraftTree → Type 0)
    (Stops : DraftTree → List Pair → ℕ → Pair → StopReason → Type 0)
    (old : DraftTree) (plan : List Pair) (new : DraftTree) : Type 0 where
  pub made : Makes old plan new
  pub safe : IsSafeRepair old plan new
  pub goes : StopsNowhere (Stops old plan) plan

-- the fault names the first pair that stops the plan, and why it does; of want of memory nothing is said
abbrev pub IsRepairFault : (Stops : ℕ → Pair → StopReason → Type 0) → List Pair → RepairFault → Type 0
IsRepairFault Stops plan (RangeRead pair) = IsFirstStop Stops plan pair why.RangeRead
IsRepairFault Stops plan (UnknownKey pair) = IsFirstStop Stops plan pair why.UnknownKey
IsRepairFault Stops plan (BodyRead pair) = IsFirstStop Stops plan pair why.BodyRead
IsRepairFault Stops plan (TooMany pair) = IsFirstStop Stops plan pair why.TooLarge
IsRepairFault Stops plan Memory = Unit {0}
