use Rattle.std.proofs.Common.{take, [], ◌∷◌}
use Rattle.si_repair.specs.Exposed.{AreExposedAmong}
use Rattle.si_repair.proofs.repairs.exposed.exposed_to.Given as goal

-- the questions to the accesses so far
abbrev pub invariant-loop-second : goal.invariant-loop-second
invariant-loop-second l = AreExposedAmong l.paths (l.first ∷ []) (take l.second-index l.seconds) l.questions.items
