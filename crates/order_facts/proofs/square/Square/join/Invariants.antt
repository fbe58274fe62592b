use Rattle.std.proofs.Common.{◌≡◌, ℕ, ◌<◌, ◌≤◌, ◌||◌, ◌&&◌}
use Rattle.order_facts.specs.Square.{entry}
use Rattle.order_facts.proofs.square.Square.join.Given as goal

-- the rows that are done lead to what `through` leads to, where they lead to `through`
abbrev pub invariant-loop-row : goal.invariant-loop-row
invariant-loop-row l = record {
  size : l.self.size ≡ l.fn.self.size;
  joined : (i j : ℕ) → i < l.row → j < l.fn.self.size → entry l.self i j ≡ (entry l.fn.self i j || (entry l.fn.self i l.through && entry l.fn.self l.through j));
  ahead : (i j : ℕ) → i < l.fn.self.size → j < l.fn.self.size → l.row ≤ i → entry l.self i j ≡ entry l.fn.self i j;
}
