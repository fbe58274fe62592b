use Rattle.std.proofs.Common.{◌≡◌, ◌≢◌, ℕ, ◌<◌, ◌≤◌, Bool, length, slice_index, sum, if◌then◌else◌}
use Rattle.serial_orders.specs.Orders.{is_one_of, LeadsTo}
use Rattle.serial_orders.specs.Placing.{times, IsLed}
use Rattle.serial_orders.proofs.order.walk_back.Given as goal

abbrev pub invariant-loop-walk : goal.invariant-loop-walk
invariant-loop-walk l = record {
  long : length l.leaders.items ≡ length l.fn.leaders.items;
  here : l.at < length l.fn.leaders.items;
  led : slice_index l.fn.leaders.items l.at ≢ 0;
  kept : (n : ℕ) → slice_index l.leaders.items n ≡ (if is_one_of l.walk.items n then 0 else slice_index l.fn.leaders.items n);
  once : (n : ℕ) → times n l.walk.items ≤ 1;
  walked : (before : ℕ → ℕ → Bool) → IsLed before l.fn.leaders.items → LeadsTo (λ i j. before j i) l.walk.items l.at;
}

abbrev pub decreases-loop-walk : goal.decreases-loop-walk
decreases-loop-walk l = sum l.leaders.items
