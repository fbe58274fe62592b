use Rattle.robust_cert.proofs.Passing.{asked-ready, asked-more}
use Rattle.robust_cert.proofs.checking.left.enter_asked.Goals as goal

pub enter_question-at-requires : goal.enter_question-at-requires
enter_question-at-requires c = asked-ready c.args.entries.now c.args.first.now c.args.places.now c.loop-second.second-index _ c.loop-second-test.true c.args.cursor c.loop-second.at c.args.left.now c.loop-second.left c.requires c.loop-second.invariant

pub loop-second-preserved : goal.loop-second-preserved
loop-second-preserved c = asked-more c.args.entries.now c.args.first.now c.args.places.now c.loop-second.second-index _ c.loop-second-test.true c.args.cursor c.loop-second.at c.args.left.now c.loop-second.left c.enter_question-at.result c.enter_question-at.new.left c.loop-second.invariant c.enter_question-at.ensures
