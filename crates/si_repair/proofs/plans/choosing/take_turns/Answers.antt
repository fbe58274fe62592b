use Rattle.std.proofs.Common.{arith}
use Rattle.si_repair.proofs.Turns.{next-turn, next-program}
use Rattle.si_repair.proofs.plans.choosing.take_turns.Goals as goal

pub loop-to-preserved : goal.loop-to-preserved
loop-to-preserved c nodes is =
    let next = c.in_ok-next.next in
    next-turn nodes c.args.from c.loop-to.to next.plan.items next.left.items (c.in_ok-next.ensures nodes (c.loop-to.invariant nodes is))

pub returns : goal.returns
returns c nodes are is =
    let next = c.loop-to.next in
    next-program nodes c.args.programs are c.args.from c.loop-to.to next.plan.items next.left.items (omega arith) (c.loop-to.invariant nodes is)
