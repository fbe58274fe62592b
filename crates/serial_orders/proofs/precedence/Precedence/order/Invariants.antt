use Rattle.std.proofs.Common.{length, ◌≤◌}
use Rattle.serial_orders.specs.Placing.{all_free, AreBelow}
use Rattle.serial_orders.proofs.PlacingLaws.{IsPlacing}
use Rattle.serial_orders.proofs.precedence.Precedence.order.Given as goal

abbrev pub invariant-loop-place : goal.invariant-loop-place
invariant-loop-place l = record {
  placing : IsPlacing l.self l._place l.order.items l.waits.items (all_free l.passed.keys l.waits.items l.next);
  below : AreBelow l.next l.passed.keys;
  within : l.next ≤ length l.waits.items;
}
