use Rattle.robust_cert.proofs.TailTexts.{tails-more}
use Rattle.robust_cert.proofs.text.tails.tails_of.Goals as goal

pub loop-reason-preserved : goal.loop-reason-preserved
loop-reason-preserved c = tails-more c.args.reasons.now c.loop-reason.reason-index c.reason-item.result c.loop-reason.tails.items _ c.in_ok-tail_of.field-0 c.loop-reason-test.true c.reason-item.is c.loop-reason.invariant c.in_ok-push.ensures.items c.in_ok-tail_of.ensures.text c.in_ok-tail_of.ensures.fits
