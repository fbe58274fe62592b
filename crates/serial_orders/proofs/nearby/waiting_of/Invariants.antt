use Rattle.std.proofs.Common.{◌≤◌, ◌+◌, ◌-◌, slice_index}
use Rattle.serial_orders.specs.Nearby.{IsTestedBelow}
use Rattle.serial_orders.proofs.nearby.waiting_of.Given as goal

abbrev pub invariant-loop-other : goal.invariant-loop-other
invariant-loop-other l = record {
  some : 1 ≤ l.other;
  tested : IsTestedBelow l.traces l.placed l.number l.other;
}

abbrev pub decreases-loop-other : goal.decreases-loop-other
decreases-loop-other l = slice_index l.horizons l.number + 1 - l.other
