use Rattle.std.proofs.Common.{◌≡◌, true, drop}
use Rattle.serial_orders.specs.Orders.{is_one_of}
use Rattle.serial_orders.proofs.order.place_of.Given as goal

abbrev pub invariant-loop-place : goal.invariant-loop-place
invariant-loop-place l = is_one_of (drop l.place l.numbers) l.number ≡ true
