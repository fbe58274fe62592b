use Rattle.si_repair.proofs.Closings.{AreClosingBelow}
use Rattle.si_repair.proofs.plans.closing.closing_triples.Given as goal

abbrev pub invariant-loop-first : goal.invariant-loop-first
invariant-loop-first l = AreClosingBelow l.paths l.programs l.first l.triples.items
