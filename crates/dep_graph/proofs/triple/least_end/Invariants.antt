use Rattle.std.proofs.Common.{ℕ, ◌<◌, ◌-◌}
use Rattle.dep_graph.specs.Triple.{ClosesAt}
use Rattle.dep_graph.proofs.triple.least_end.Given as goal

abbrev pub invariant-loop-z : goal.invariant-loop-z
invariant-loop-z l = (z : ℕ) → z < l.start → ¬ ClosesAt l.vulnerable l.reach l.x l.y z

abbrev pub decreases-loop-z : goal.decreases-loop-z
decreases-loop-z l = l.vulnerable.size - l.start
