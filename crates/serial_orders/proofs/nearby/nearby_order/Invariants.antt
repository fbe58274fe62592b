use Rattle.std.proofs.Common.{◌≡◌, ℕ, ◌+◌, length}
use Rattle.std.specs.List.{range_with_len}
use Rattle.serial_orders.specs.Nearby.{AreMarked, IsMarkedBelow, AreHolders}
use Rattle.serial_orders.specs.Orders.{placed_by, least_order}
use Rattle.serial_orders.specs.Traces.{trace_depends}
use Rattle.serial_orders.proofs.nearby.nearby_order.Given as goal

abbrev pub invariant-loop-place : goal.invariant-loop-place
invariant-loop-place l = record {
  long : length l.placed.items ≡ length l.traces + 1;
  marked : AreMarked l.order.items l.placed.items;
  below : IsMarkedBelow l.placed.items l.from;
  holders : AreHolders l.traces l.placed.items l.holders.items;
  order : (k : ℕ) → k + l._place ≡ length l.traces → placed_by (trace_depends l.traces) (range_with_len 1 (length l.traces)) k l.order.items ≡ least_order (trace_depends l.traces) (length l.traces);
}
