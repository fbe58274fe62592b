use Rattle.std.proofs.Common.{ℕ, ◌<◌, ◌+◌}
use Rattle.order_facts.proofs.Chains.{StepAt}
use Rattle.order_facts.proofs.steps.is_chain.Given as goal

abbrev pub invariant-loop-i : goal.invariant-loop-i
invariant-loop-i l = (k : ℕ) → k + 1 < l.i → StepAt l.facts l.chain k
