use Rattle.analysis_words.proofs.Spacing.{no_gap, with_gap}
use Rattle.analysis_words.proofs.quoted.push_gap.Goals as goal

pub returns-then-not-gap : goal.returns-then-not-gap
returns-then-not-gap c = no_gap _ c.args.gap c.if-not-gap.true

pub returns : goal.returns
returns c = with_gap _ _ c.args.gap c.if-not-gap.false c.in_ok-push.ensures.items
