use Rattle.std.proofs.Common.{◌∙◌, sym, take}
use Rattle.std.proofs.lemmas.List.Elements.{All-take}
use Rattle.prog_tree.specs.Tree.{draft_tree}
use Rattle.si_repair.specs.Promotion.{pairs_of, HasCoverableReads}
use Rattle.si_repair.proofs.Promotion.{refused_with, sound_with}
use Rattle.si_repair.proofs.repairs.promotion.FirstCoverableFirsts.fit.Goals as goal

pub with_keeps-requires-clause-paths : goal.with_keeps-requires-clause-paths
with_keeps-requires-clause-paths c = c.requires.stands.0

pub with_keeps-requires-clause-coverable : goal.with_keeps-requires-clause-coverable
with_keeps-requires-clause-coverable c = All-take (HasCoverableReads (draft_tree c.args.self.now.set.now)) c.args.n c.args.self.now.coverable.now c.requires.stands.1

pub returns-clause-fits : goal.returns-clause-fits
returns-clause-fits c fits =
    sound_with (draft_tree c.args.self.now.set.now) (pairs_of (take c.args.n c.args.self.now.coverable.now)) c.in_ok-promoted.promoted
    (sym c.is_some.ensures ∙ fits) c.in_ok-promoted.ensures.made c.in_ok-promoted.ensures.sound

pub returns-clause-refused : goal.returns-clause-refused
returns-clause-refused c large =
    refused_with (draft_tree c.args.self.now.set.now) (pairs_of (take c.args.n c.args.self.now.coverable.now)) c.in_ok-promoted.promoted
    (sym c.is_some.ensures ∙ large) c.in_ok-promoted.ensures.refused
