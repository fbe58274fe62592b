use Rattle.std.proofs.Common.{ℕ, ◌<◌}
use Rattle.robust_cert.specs.Levels.{StaysIn}
use Rattle.robust_cert.proofs.checking.levels.first_stay_by.Given as goal

abbrev pub invariant-loop-x : goal.invariant-loop-x
invariant-loop-x l = (x z : ℕ) → x < l.x → ¬ StaysIn l.vulnerable l.levels x l.y z
