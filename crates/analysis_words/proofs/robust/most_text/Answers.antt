use Rattle.std.proofs.Common.{Some, subst}
use Rattle.std.proofs.lemmas.Result.{IfOk-weaker}
use Rattle.analysis_words.specs.Counts.{IsMost, count_at, covers_in}
use Rattle.analysis_words.proofs.Counts.{most-same}
use Rattle.analysis_words.proofs.robust.most_text.Goals as goal

pub returns-in-Some : goal.returns-in-Some
returns-in-Some c =
    let counts = count_at c.args.counts.now.covers.items in
    let most = subst (IsMost counts) c.in-Some.is c.most_covering.ensures in
    let covers = most-same counts (covers_in c.args.shown.paths.now c.args.entries.now) c.requires.covers (Some c.in-Some.covering) most in
    IfOk-weaker c.covering_text.result _ _ (λ text is. (Some c.in-Some.covering, covers, is)) c.covering_text.ensures
