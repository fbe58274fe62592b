use Rattle.std.proofs.Common.{◌≡◌, ◌≢◌, ℕ, ◌+◌, ◌≤◌, true, length, slice_index}
use Rattle.serial_orders.specs.Precedence.{precedes}
use Rattle.serial_orders.proofs.precedence.Precedence.leaders.Given as goal

abbrev pub invariant-loop-place : goal.invariant-loop-place
invariant-loop-place l = record {
  long : length l.leaders.items ≡ length l.self + 1;
  leads : (n : ℕ) → slice_index l.leaders.items n ≢ 0 → (precedes l.self (slice_index l.leaders.items n) n ≡ true) × (slice_index l.waits (slice_index l.leaders.items n) ≢ 0);
  whole : (i n : ℕ) → i ≤ l.place → precedes l.self i n ≡ true → slice_index l.waits i ≢ 0 → slice_index l.leaders.items n ≢ 0;
}
