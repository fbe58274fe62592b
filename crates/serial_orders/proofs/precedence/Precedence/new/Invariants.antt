use Rattle.std.proofs.Common.{◌≡◌, ℕ, false, length}
use Rattle.serial_orders.specs.Precedence.{number_lists, precedes}
use Rattle.serial_orders.proofs.precedence.Precedence.new.Given as goal

abbrev pub invariant-loop-commit : goal.invariant-loop-commit
invariant-loop-commit l = record {
  long : length l.after.items ≡ l._commit;
  free : (i j : ℕ) → precedes (number_lists l.after.items) i j ≡ false;
}
