use Rattle.robust_cert.specs.Telling.{question_with}
use Rattle.robust_cert.proofs.Reasons.{cover-holds}
use Rattle.robust_cert.proofs.checking.flaw.check_reason.Goals as goal

pub returns-then-show_equal-clause-chains : goal.returns-then-show_equal-clause-chains
returns-then-show_equal-clause-chains c =
    cover-holds c.args.paths.now c.args.question c.args.reason.now _ _ _ c.in-Cover.is c.args.asked.mine.now c.args.asked.theirs.now c.requires (question_with c.from-question.result) c.from-question.ensures c.len.result c.in-Some.mine.now c.in-Some.theirs.now c.in-Some.ensures.some _ c.as_slice-in-Cover.ensures (c.show_equal.ensures.0 c.if-show_equal.true)
