use Rattle.std.proofs.Common.{◌≡◌}
use Rattle.serial_orders.specs.Placing.{free_from}
use Rattle.serial_orders.proofs.order.next_free.Given as goal

abbrev pub invariant-loop-number : goal.invariant-loop-number
invariant-loop-number l = free_from l.waits l.from ≡ free_from l.waits l.number
