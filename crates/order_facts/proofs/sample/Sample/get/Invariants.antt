use Rattle.std.proofs.Common.{◌≡◌, drop}
use Rattle.order_facts.specs.Sample.{chosen}
use Rattle.order_facts.proofs.sample.Sample.get.Given as goal

abbrev pub invariant-loop-choice : goal.invariant-loop-choice
invariant-loop-choice l = chosen (drop l.choice-index l.choice-items) l.node ≡ chosen l.choice-items l.node
