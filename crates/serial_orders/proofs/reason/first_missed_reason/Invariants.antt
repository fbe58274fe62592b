use Rattle.std.proofs.Common.{◌≡◌, drop}
use Rattle.std.specs.Prelude.{find}
use Rattle.serial_orders.specs.Traces.{takes_in}
use Rattle.serial_orders.proofs.reason.first_missed_reason.Given as goal

abbrev pub invariant-loop-sight : goal.invariant-loop-sight
invariant-loop-sight l = find (λ s. takes_in s l.cell) (drop l.sight-index l.sights) ≡ find (λ s. takes_in s l.cell) l.sights
