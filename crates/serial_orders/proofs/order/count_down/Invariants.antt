use Rattle.std.proofs.Common.{◌≡◌, ℕ, ◌+◌, ◌<◌, length, drop, slice_index}
use Rattle.serial_orders.specs.Placing.{times}
use Rattle.serial_orders.proofs.order.count_down.Given as goal

abbrev pub invariant-loop-number : goal.invariant-loop-number
invariant-loop-number l =
    (n : ℕ) → n < length l.fn.counts → slice_index l.counts n + times n l.numbers ≡ slice_index l.fn.counts n + times n (drop l.number-index l.numbers)
