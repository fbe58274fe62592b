use Rattle.std.proofs.Common.{◌≤◌, ◌+◌, length}
use Rattle.dep_graph.specs.Distances.{KnowsWithin}
use Rattle.dep_graph.proofs.Rounds.{unknown}
use Rattle.dep_graph.proofs.least_way.least_way.Given as goal

abbrev pub invariant-loop-steps : goal.invariant-loop-steps
invariant-loop-steps l = record {
  knows : KnowsWithin l.edges l.end l.distances.items l.round;
  few : l.round + unknown l.distances.items ≤ length l.distances.items;
}

abbrev pub decreases-loop-steps : goal.decreases-loop-steps
decreases-loop-steps l = unknown l.distances.items
