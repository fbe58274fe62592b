use Rattle.std.proofs.Common.{ℕ, ◌<◌, ◌-◌}
use Rattle.dep_graph.specs.Triple.{ClosesAt}
use Rattle.dep_graph.proofs.triple.least_pair.Given as goal

abbrev pub invariant-loop-y : goal.invariant-loop-y
invariant-loop-y l = (y : ℕ) → y < l.start → ¬ ((z : ℕ) × ClosesAt l.vulnerable l.reach l.x y z)

abbrev pub decreases-loop-y : goal.decreases-loop-y
decreases-loop-y l = l.vulnerable.size - l.start
