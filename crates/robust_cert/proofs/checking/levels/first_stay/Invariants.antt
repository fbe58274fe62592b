use Rattle.std.proofs.Common.{ℕ, ◌<◌, ◌-◌}
use Rattle.robust_cert.specs.Levels.{StaysIn}
use Rattle.robust_cert.proofs.checking.levels.first_stay.Given as goal

abbrev pub invariant-loop-z : goal.invariant-loop-z
invariant-loop-z l = (z : ℕ) → z < l.start → ¬ StaysIn l.vulnerable l.levels l.x l.y z

abbrev pub decreases-loop-z : goal.decreases-loop-z
decreases-loop-z l = l.vulnerable.size - l.start
