use Rattle.std.proofs.Common.{arith}
use Rattle.si_repair.proofs.Turns.{start, end}
use Rattle.si_repair.proofs.plans.choosing.choose.Goals as goal

pub loop-from-init : goal.loop-from-init
loop-from-init c nodes are closing = rw c.new.ensures.items (start nodes c.args.programs are c.args.triples.items closing)

pub loop-from-preserved : goal.loop-from-preserved
loop-from-preserved c nodes are closing = c.in_ok-partial.ensures nodes are (c.loop-from.invariant nodes are closing)

pub returns : goal.returns
returns c nodes are closing = end nodes c.args.programs are c.loop-from.from c.loop-from.partial.plan.items c.loop-from.partial.left.items (omega arith) (c.loop-from.invariant nodes are closing)
