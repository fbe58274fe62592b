use Rattle.std.proofs.Common.{◌≡◌, ℕ, ◌<◌, ◌≤◌, length, false}
use Rattle.order_facts.specs.Reaches.{is_below, fact_at}
use Rattle.order_facts.specs.Square.{entry}
use Rattle.order_facts.proofs.matrix.ends_of.Given as goal

-- the rows of the facts before are done, and the others join none
abbrev pub invariant-loop-from : goal.invariant-loop-from
invariant-loop-from l = record {
  size : l.matrix.size ≡ length l.facts;
  done : (i j : ℕ) → i < l.from → j < length l.facts → entry l.matrix i j ≡ is_below (fact_at l.facts i).hi (fact_at l.facts j).lo;
  ahead : (i j : ℕ) → l.from ≤ i → i < length l.facts → j < length l.facts → entry l.matrix i j ≡ false;
}
