use Rattle.std.proofs.Common.{◌∙◌}
use Rattle.conflict_pairs.proofs.Paired.{question-any}
use Rattle.conflict_pairs.proofs.pairing.question_of.Goals as goal

pub returns : goal.returns
returns c = c.question_between.ensures ∙ question-any c.args.places.now c.args.pair _ _ c.requires
