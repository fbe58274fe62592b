use Rattle.std.proofs.Common.{arith}
use Rattle.order_facts.proofs.square.Square.join.Goals as goal

pub returns : goal.returns
returns c = record {
  size = c.loop-row.invariant.size;
  entries = λ i j p q. c.loop-row.invariant.joined i j (omega (arith, p)) q;
}
