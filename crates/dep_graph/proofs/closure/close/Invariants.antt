use Rattle.std.proofs.Common.{◌≡◌, ℕ, ◌<◌}
use Rattle.order_facts.specs.Square.{entry}
use Rattle.dep_graph.proofs.Closing.{leads_through}
use Rattle.dep_graph.proofs.closure.close.Given as goal

-- the nodes below `through` are passed through
abbrev pub invariant-loop-through : goal.invariant-loop-through
invariant-loop-through l = record {
  size : l.reach.size ≡ l.edges.size;
  entries : (i j : ℕ) → i < l.edges.size → j < l.edges.size → entry l.reach i j ≡ leads_through (entry l.edges) l.through i j;
}
