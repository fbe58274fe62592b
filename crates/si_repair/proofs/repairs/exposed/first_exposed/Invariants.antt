use Rattle.std.proofs.Common.{take, []}
use Rattle.si_repair.specs.Exposed.{AreExposedAmong}
use Rattle.si_repair.proofs.repairs.exposed.first_exposed.Given as goal

-- none of the accesses so far is exposed to any
abbrev pub invariant-loop-place : goal.invariant-loop-place
invariant-loop-place l = AreExposedAmong l.paths (take l.place-index l.reads) l.changes []
