use Rattle.std.proofs.Common.{◌-◌, length}
use Rattle.robust_cert.specs.Telling.{question_with, IsBehind}
use Rattle.robust_cert.proofs.checking.telling.cursor_at.Given as goal

abbrev pub invariant-loop-at : goal.invariant-loop-at
invariant-loop-at l = IsBehind l.entries l.at (question_with l.question)

abbrev pub decreases-loop-at : goal.decreases-loop-at
decreases-loop-at l = length l.entries - l.at
