use Rattle.std.proofs.Common.{take}
use Rattle.si_repair.specs.Obstacles.{HasHindered, IsRangeIn}
use Rattle.si_repair.proofs.repairs.obstacles.first_hindered.Given as goal

-- none of the questions so far
abbrev pub invariant-loop-question : goal.invariant-loop-question
invariant-loop-question l = HasHindered l.paths (IsRangeIn l.ranges) l.obstacle (take l.question-index l.questions) → ⊥
