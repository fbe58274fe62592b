use Rattle.std.proofs.Common.{All, List, subst}
use Rattle.std.proofs.lemmas.Result.{IfOk-weaker}
use Rattle.order_facts.specs.declared.steps.Fact.{Fact}
use Rattle.conflict_pairs.specs.Search.{IsCoverFound, ShowEqualAt}
use Rattle.conflict_pairs.specs.Verdicts.{IsShortest}
use Rattle.conflict_pairs.proofs.Meaning.{IsJudged-from_uncovered}
use Rattle.conflict_pairs.proofs.judge.verdict_by_closed.Goals as goal

pub returns-in-Some : goal.returns-in-Some
returns-in-Some c =
    let xs = c.args.xs.now in
    let ys = c.args.ys.now in
    let chains = c.in_ok-chains.chains in
    subst (λ (facts : List Fact). IsCoverFound facts c.args.mine.now.kind c.args.theirs.now.kind xs ys c.in-Some.m c.in-Some.t
    × ShowEqualAt facts xs ys c.in-Some.m c.in-Some.t chains × All (IsShortest facts) chains) c.in_ok-closed.ensures
    (c.in-Some.ensures.some, c.in_ok-chains.ensures.equal, c.in_ok-chains.ensures.shortest)

pub returns : goal.returns
returns c =
    IfOk-weaker c.uncovered_verdict.result _ _ (λ verdict is. IsJudged-from_uncovered c.args.xs.now c.args.ys.now c.args.mine.now c.args.theirs.now c.in_ok-closed.closed verdict
    c.in_ok-closed.ensures is c.in_default.ensures.none) c.uncovered_verdict.ensures
