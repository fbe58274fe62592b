use Rattle.std.proofs.Common.{ℕ, ◌<◌, ◌-◌}
use Rattle.robust_cert.specs.Levels.{FallsIn}
use Rattle.robust_cert.proofs.checking.levels.first_fall.Given as goal

abbrev pub invariant-loop-y : goal.invariant-loop-y
invariant-loop-y l = (y : ℕ) → y < l.start → ¬ FallsIn l.edges l.levels l.x y

abbrev pub decreases-loop-y : goal.decreases-loop-y
decreases-loop-y l = l.edges.size - l.start
