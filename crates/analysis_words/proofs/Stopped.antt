-- A plan that stops somewhere is not carried out.
use Rattle.std.proofs.Common.{◌≡◌, ◌↔◌, ℕ, Bool, true, false, List, IfOk, IsTrue, Ok, Err, Result, refl}
use Rattle.repair_laws.specs.declared.plan.Pair.{Pair}
use Rattle.repair_laws.specs.Refusals.{StopReason, IsFirstStop}
use Rattle.repair_laws.specs.Refusals as why
use Rattle.si_repair.specs.Repairing.{StopsNowhere, IsRepairFault}
use Rattle.si_repair.specs.declared.repairs.fault.RepairFault.{RepairFault}
use Rattle.si_repair.specs.declared.repairs.fault.RepairFault.TheVariants.{RangeRead, UnknownKey, BodyRead, TooMany, Memory}

stops_not : (Stops : ℕ → Pair → StopReason → Type 0) (plan : List Pair) (pair : Pair) (reason : StopReason)
    → IsFirstStop Stops plan pair reason → StopsNowhere Stops plan → ⊥
stops_not Stops plan pair reason stop nowhere = nowhere stop.place pair reason stop.at stop.stops

pub stops_somewhere : (Stops : ℕ → Pair → StopReason → Type 0) (plan : List Pair) (fault : RepairFault)
    → IsRepairFault Stops plan fault → ¬ (fault ≡ Memory) → StopsNowhere Stops plan → ⊥
stops_somewhere Stops plan (RangeRead pair) stop other = stops_not Stops plan pair why.RangeRead stop
stops_somewhere Stops plan (UnknownKey pair) stop other = stops_not Stops plan pair why.UnknownKey stop
stops_somewhere Stops plan (BodyRead pair) stop other = stops_not Stops plan pair why.BodyRead stop
stops_somewhere Stops plan (TooMany pair) stop other = stops_not Stops plan pair why.TooLarge stop
stops_somewhere Stops plan Memory stop other = absurd (other refl)

-- what a call answers that was carried out
pub done : {E : Type 0} (answer : Result Bool E) (Can : Type 0) → answer ≡ Ok true → Can → IfOk answer (λ yes. IsTrue yes ↔ Can)
done answer Can is can = rw is (λ _. can, λ _. refl)

pub stopped : {E : Type 0} (answer : Result Bool E) (fault : RepairFault) (Stops : ℕ → Pair → StopReason → Type 0) (plan : List Pair)
    → IfOk answer (λ yes. (yes ≡ false) × ¬ (fault ≡ Memory)) → IsRepairFault Stops plan fault
    → IfOk answer (λ yes. IsTrue yes ↔ StopsNowhere Stops plan)
stopped (Err e) fault Stops plan told stop = tt
stopped (Ok true) fault Stops plan (is, other) stop = absurd (cc)
stopped (Ok false) fault Stops plan (is, other) stop =
    (λ (yes : false ≡ true). absurd (cc), λ nowhere. absurd (stops_somewhere Stops plan fault stop other nowhere))
