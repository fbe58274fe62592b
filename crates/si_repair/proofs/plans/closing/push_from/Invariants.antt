use Rattle.si_repair.specs.Planning.{ClosesFrom, AddsTriples}
use Rattle.si_repair.proofs.plans.closing.push_from.Given as goal

abbrev pub invariant-loop-second : goal.invariant-loop-second
invariant-loop-second l = AddsTriples l.fn.triples.items l.triples.items (ClosesFrom l.nodes.paths l.first l.second l.nodes.programs)
