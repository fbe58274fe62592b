use Rattle.std.proofs.Common.{◌≡◌, ℕ, ◌<◌, length}
use Rattle.dep_graph.specs.Distances.{distance_at, IsNextDistance}
use Rattle.dep_graph.proofs.distances.next_distances.Given as goal

abbrev pub invariant-loop-node : goal.invariant-loop-node
invariant-loop-node l = record {
  size : length l.next.items ≡ l.node;
  each : (node : ℕ) → node < l.node → IsNextDistance l.edges l.distances l.round node (distance_at l.next.items node);
}
