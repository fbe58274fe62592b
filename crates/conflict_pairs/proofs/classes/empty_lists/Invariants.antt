use Rattle.std.proofs.Common.{◌≡◌, ℕ, [], length}
use Rattle.conflict_pairs.specs.Classes.{nodes_at}
use Rattle.conflict_pairs.proofs.classes.empty_lists.Given as goal

abbrev pub invariant-loop : goal.invariant-loop
invariant-loop l = record {
  size : length l.lists.items ≡ l.counter;
  empty : (c : ℕ) → nodes_at l.lists.items c ≡ [];
}
