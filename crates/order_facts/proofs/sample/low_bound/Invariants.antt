use Rattle.order_facts.proofs.Sampling.{IsLowSoFar}
use Rattle.order_facts.proofs.sample.low_bound.Given as goal

abbrev pub invariant-loop-from : goal.invariant-loop-from
invariant-loop-from l = IsLowSoFar l.facts l.node l.from l.low
