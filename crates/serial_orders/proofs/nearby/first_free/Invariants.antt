use Rattle.std.proofs.Common.{ℕ, ◌<◌, ◌≤◌, false}
use Rattle.serial_orders.specs.Nearby.{IsFreeTest, AreHolders}
use Rattle.serial_orders.proofs.nearby.first_free.Given as goal

abbrev pub invariant-loop-number : goal.invariant-loop-number
invariant-loop-number l = record {
  holders : AreHolders l.traces l.placed l.holders;
  held : (n : ℕ) → l.from ≤ n → n < l.number → IsFreeTest l.traces l.placed n false;
}
