-- A set as its plan repairs it.
use Rattle.std.proofs.Common.{◌≡◌, Bool, List, sym, subst}
use Rattle.prog_tree.specs.Syntax.{DraftTree}
use Rattle.prog_check.specs.Paths.{paths_of}
use Rattle.repair_laws.specs.declared.plan.Pair.{Pair}
use Rattle.repair_laws.specs.Plans.{IsPlan}
use Rattle.si_repair.specs.Findings.{AsksFew}
use Rattle.si_repair.specs.Repairing.{IsCarriedOut}
use Rattle.sirob.specs.Inputs.{IsRepairBy, IsRepaired, StopsRepair}

-- what a plan makes of the set by one of the two ways, where that way is asked for
pub repaired_by : (asked promote : Bool) (set new : DraftTree) (plan : List Pair) → asked ≡ promote → AsksFew set → IsPlan (paths_of set) plan
    → IsCarriedOut (IsRepairBy promote) (StopsRepair promote) set plan new → IsRepaired asked set new
repaired_by asked promote set new plan is few planned carried =
    subst (λ (way : Bool). IsRepaired way set new) (sym is) (record { few = few; plan = plan; planned = planned; carried_out = carried })
