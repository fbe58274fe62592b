use Rattle.std.proofs.Common.{ℕ, ◌<◌}
use Rattle.dep_graph.specs.Triple.{ClosesAt}
use Rattle.dep_graph.proofs.triple.least_triple.Given as goal

abbrev pub invariant-loop-x : goal.invariant-loop-x
invariant-loop-x l = (x y z : ℕ) → x < l.x → ¬ ClosesAt l.vulnerable l.reach x y z
