use Rattle.std.proofs.Common.{length}
use Rattle.version_store.proofs.VacuumLaws.{Vacuums}
use Rattle.version_store.proofs.chains.Chains.vacuum.Given as goal

abbrev pub invariant-loop-cell : goal.invariant-loop-cell
invariant-loop-cell l = Vacuums l.floor l.fn.self l.self l.fn.pending l.pending l.count

abbrev pub decreases-loop-cell : goal.decreases-loop-cell
decreases-loop-cell l = length l.pending
