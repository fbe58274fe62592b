use Rattle.std.proofs.Common.{◌≡◌, ℕ, ◌<◌, ◌≤◌, ◌||◌}
use Rattle.std.specs.Prelude.{◌==◌}
use Rattle.order_facts.specs.Square.{entry}
use Rattle.dep_graph.proofs.closure.with_itself.Given as goal

abbrev pub invariant-loop-node : goal.invariant-loop-node
invariant-loop-node l = record {
  size : l.reach.size ≡ l.edges.size;
  joined : (i j : ℕ) → i < l.node → j < l.edges.size → entry l.reach i j ≡ (i == j || entry l.edges i j);
  ahead : (i j : ℕ) → i < l.edges.size → j < l.edges.size → l.node ≤ i → entry l.reach i j ≡ entry l.edges i j;
}
