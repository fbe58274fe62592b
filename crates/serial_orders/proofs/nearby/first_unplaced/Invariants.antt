use Rattle.std.proofs.Common.{◌≡◌, ℕ, ◌<◌, ◌≤◌, true}
use Rattle.serial_orders.specs.Nearby.{is_marked}
use Rattle.serial_orders.proofs.nearby.first_unplaced.Given as goal

abbrev pub invariant-loop-number : goal.invariant-loop-number
invariant-loop-number l = (n : ℕ) → l.from ≤ n → n < l.number → is_marked l.placed n ≡ true
