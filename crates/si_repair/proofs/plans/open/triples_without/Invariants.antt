use Rattle.std.proofs.Common.{take}
use Rattle.si_repair.specs.Planning.{AreWithout}
use Rattle.si_repair.proofs.plans.open.triples_without.Given as goal

abbrev pub invariant-loop-triple : goal.invariant-loop-triple
invariant-loop-triple l = AreWithout (take l.triple-index l.triples) l.pair l.left.items
