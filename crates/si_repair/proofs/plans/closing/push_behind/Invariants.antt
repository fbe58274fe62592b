use Rattle.si_repair.specs.Planning.{ClosesBehind, AddsTriples}
use Rattle.si_repair.proofs.plans.closing.push_behind.Given as goal

abbrev pub invariant-loop-third : goal.invariant-loop-third
invariant-loop-third l = AddsTriples l.fn.triples.items l.triples.items (ClosesBehind l.nodes.paths l.pair l.third)
