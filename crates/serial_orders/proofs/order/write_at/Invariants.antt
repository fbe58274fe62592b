use Rattle.std.proofs.Common.{◌≡◌, ℕ, take, slice_index, if◌then◌else◌}
use Rattle.serial_orders.specs.Orders.{is_one_of}
use Rattle.serial_orders.proofs.order.write_at.Given as goal

abbrev pub invariant-loop-place : goal.invariant-loop-place
invariant-loop-place l =
    (n : ℕ) → slice_index l.numbers n ≡ (if is_one_of (take l.place-index l.places) n then l.number else slice_index l.fn.numbers n)
