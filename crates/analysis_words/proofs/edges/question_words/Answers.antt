use Rattle.std.proofs.Common.{inl, inr}
use Rattle.std.proofs.lemmas.Option.{MatchOption-at_none}
use Rattle.analysis_words.specs.Nodes.{seen, HasNoAccess}
use Rattle.analysis_words.proofs.edges.question_words.Goals as goal

pub returns-in_default-clause-none : goal.returns-in_default-clause-none
returns-in_default-clause-none c =
    let shown = c.args.shown in
    let q = c.args.question in
    inl (MatchOption-at_none (HasNoAccess (seen shown) q.x q.a) _ c.in_default.is c.in_ok-reader.ensures.none)

pub returns-in_default-2-clause-none : goal.returns-in_default-2-clause-none
returns-in_default-2-clause-none c =
    let shown = c.args.shown in
    let q = c.args.question in
    inr (MatchOption-at_none (HasNoAccess (seen shown) q.y q.b) _ c.in_default-2.is c.in_ok-writer.ensures.none)
