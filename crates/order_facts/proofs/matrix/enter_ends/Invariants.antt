use Rattle.std.proofs.Common.{◌≡◌, ℕ, ◌<◌, ◌≤◌, ◌||◌}
use Rattle.order_facts.specs.Reaches.{is_below, fact_at}
use Rattle.order_facts.specs.Square.{entry}
use Rattle.order_facts.proofs.matrix.enter_ends.Given as goal

-- the row is done in the columns of the facts before
abbrev pub invariant-loop-to : goal.invariant-loop-to
invariant-loop-to l = record {
  size : l.matrix.size ≡ l.fn.matrix.size;
  joined : (j : ℕ) → j < l.to → entry l.matrix l.from j ≡ (entry l.fn.matrix l.from j || is_below (fact_at l.facts l.from).hi (fact_at l.facts j).lo);
  ahead : (i j : ℕ) → i < l.fn.matrix.size → j < l.fn.matrix.size → l.to ≤ j → entry l.matrix i j ≡ entry l.fn.matrix i j;
  others : (i j : ℕ) → i < l.fn.matrix.size → j < l.fn.matrix.size → ¬ (i ≡ l.from) → entry l.matrix i j ≡ entry l.fn.matrix i j;
}
