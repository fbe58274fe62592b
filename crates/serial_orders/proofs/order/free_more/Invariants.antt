use Rattle.std.proofs.Common.{◌≡◌, ◌==◌, ◌&&◌, ◌||◌, ℕ, nat_lt, take, slice_index}
use Rattle.serial_orders.specs.Orders.{is_one_of}
use Rattle.serial_orders.proofs.order.free_more.Given as goal

abbrev pub invariant-loop-number : goal.invariant-loop-number
invariant-loop-number l =
    (n : ℕ) → is_one_of l.passed.keys n ≡ (is_one_of l.fn.passed.keys n || (is_one_of (take l.number-index l.numbers) n && (slice_index l.waits n == 0 && nat_lt n l.next)))
