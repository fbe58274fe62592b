use Rattle.repair_laws.proofs.Putting.{columns_at, programs_more}
use Rattle.repair_laws.proofs.front.all_with_front.Goals as goal

pub with_front-requires : goal.with_front-requires
with_front-requires c =
    columns_at c.args.programs.now c.args.made.now c.loop-number.number c.index-programs-number.result c.requires c.loop-number-test.true c.index-programs-number.is

pub loop-number-preserved : goal.loop-number-preserved
loop-number-preserved c =
    programs_more c.args.made.now c.args.programs.now c.loop-number.all.items c.push.new.self.items c.loop-number.number c.index-programs-number.result c.in_ok-with_front.field-0
    c.loop-number-test.true c.index-programs-number.is c.in_ok-push.ensures.items c.in_ok-with_front.ensures c.loop-number.invariant
