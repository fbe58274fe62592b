use Rattle.std.proofs.Common.{arith}
use Rattle.order_facts.specs.Reaches.{reaches}
use Rattle.order_facts.proofs.matrix.ends_of.Goals as goal

pub returns : goal.returns
unfolding reaches
returns c = record { size = c.loop-from.invariant.size; entries = λ i j p q. c.loop-from.invariant.done i j (omega (arith, c.loop-from.invariant.size)) (omega (arith, c.loop-from.invariant.size)) }
