use Rattle.std.proofs.Common.{◌≡◌, ℕ, ◌+◌, ◌*◌, ◌^◌, ◌<◌, ◌≤◌, [], length, drop, slice_index}
use Rattle.serial_orders.specs.Placing.{waits_from}
use Rattle.serial_orders.proofs.precedence.Precedence.waits.Given as goal

abbrev pub invariant-loop-place : goal.invariant-loop-place
invariant-loop-place l = record {
  long : length l.waits.items ≡ length l.self + 1;
  counted : (n : ℕ) → n < length l.waits.items → slice_index l.waits.items n + waits_from (l.place + 1) (drop l.place l.self) [] n ≡ waits_from 1 l.self [] n;
  small : (n : ℕ) → n < length l.waits.items → slice_index l.waits.items n ≤ 2 ^ 63 * l.place;
}
