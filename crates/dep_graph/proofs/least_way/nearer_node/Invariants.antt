use Rattle.std.proofs.Common.{ℕ, ◌<◌, ◌-◌}
use Rattle.dep_graph.specs.Distances.{StepsNearer}
use Rattle.dep_graph.proofs.least_way.nearer_node.Given as goal

abbrev pub invariant-loop-next : goal.invariant-loop-next
invariant-loop-next l = (w : ℕ) → w < l.start → ¬ StepsNearer l.edges l.distances l.node l.steps w

abbrev pub decreases-loop-next : goal.decreases-loop-next
decreases-loop-next l = l.edges.size - l.start
