use Rattle.std.proofs.Common.{ℕ, ◌<◌}
use Rattle.robust_cert.specs.Levels.{FallsIn}
use Rattle.robust_cert.proofs.checking.levels.least_fall.Given as goal

abbrev pub invariant-loop-x : goal.invariant-loop-x
invariant-loop-x l = (x y : ℕ) → x < l.x → ¬ FallsIn l.edges l.levels x y
