use Rattle.std.proofs.Common.{◌∙◌, arith}
use Rattle.serial_orders.proofs.FreeLaws.{free-here, free-later, free-none}
use Rattle.serial_orders.proofs.order.next_free.Goals as goal

pub loop-number-preserved : goal.loop-number-preserved
loop-number-preserved c =
    c.loop-number.invariant ∙ free-later c.args.waits.now c.loop-number.number (omega arith) c.if-waits-number-eq0.false

pub returns-then-waits-number-eq0-clause-some : goal.returns-then-waits-number-eq0-clause-some
returns-then-waits-number-eq0-clause-some c = record {
  from_on = omega arith;
  within = omega arith;
  first = c.loop-number.invariant ∙ free-here c.args.waits.now c.loop-number.number (omega arith) c.if-waits-number-eq0.true;
}

pub returns-clause-none : goal.returns-clause-none
returns-clause-none c = c.loop-number.invariant ∙ free-none c.args.waits.now c.loop-number.number (omega arith)
