use Rattle.robust_cert.proofs.Passing.{seconds-ready, seconds-more}
use Rattle.robust_cert.proofs.checking.left.enter_all.Goals as goal

pub enter_asked-at-requires : goal.enter_asked-at-requires
enter_asked-at-requires c = seconds-ready c.args.entries.now c.args.places.now c.in_ok-changers.changers c.of_table-seconds.result.now c.loop-first.first-index _ c.loop-first-test.true 0 c.loop-first.at c.args.left.now c.loop-first.left c.of_table-seconds.ensures c.in_ok-changers.ensures c.requires c.loop-first.invariant

pub loop-first-preserved : goal.loop-first-preserved
loop-first-preserved c = seconds-more c.args.entries.now c.args.places.now c.in_ok-changers.changers c.of_table-seconds.result.now c.loop-first.first-index _ c.loop-first-test.true 0 c.loop-first.at c.args.left.now c.loop-first.left c.of_table-seconds.ensures c.in_ok-changers.ensures c.enter_asked-at.result c.enter_asked-at.new.left c.loop-first.invariant c.enter_asked-at.ensures
