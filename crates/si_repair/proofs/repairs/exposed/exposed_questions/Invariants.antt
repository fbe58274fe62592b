use Rattle.std.proofs.Common.{take}
use Rattle.si_repair.specs.Exposed.{AreExposedAmong}
use Rattle.si_repair.proofs.repairs.exposed.exposed_questions.Given as goal

-- the questions of the accesses so far
abbrev pub invariant-loop-read : goal.invariant-loop-read
invariant-loop-read l = AreExposedAmong l.paths (take l.read-index l.reads) l.changes l.questions.items
