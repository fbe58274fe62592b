use Rattle.order_facts.proofs.Sampling.{IsHighSoFar}
use Rattle.order_facts.proofs.sample.high_bound.Given as goal

abbrev pub invariant-loop-to : goal.invariant-loop-to
invariant-loop-to l = IsHighSoFar l.facts l.node l.to l.high
