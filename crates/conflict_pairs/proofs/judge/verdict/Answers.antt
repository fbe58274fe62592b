use Rattle.std.proofs.lemmas.Result.{IfOk-weaker}
use Rattle.conflict_pairs.proofs.Meaning.{IsRight-from_lists, HasFall-from_lists}
use Rattle.prog_paths.specs.Questions.{two, between}
use Rattle.conflict_pairs.specs.Verdicts.{IsRight}
use Rattle.conflict_pairs.proofs.judge.verdict.Goals as goal

pub returns-clause-right : goal.returns-clause-right
returns-clause-right c =
    IfOk-weaker c.verdict_by_facts.result _ (λ v. IsRight (two c.args.x.now c.args.y.now) (between c.args.a c.args.b) v)
    (λ v h. IsRight-from_lists c.args.x.now c.args.y.now c.args.a c.args.b c.as_slice-xs.result.now c.as_slice-ys.result.now _ _
    c.requires.question c.requires.single_x c.requires.single_y c.as_slice-xs.ensures c.as_slice-ys.ensures v h) c.verdict_by_facts.ensures.judged

pub returns-clause-at_once : goal.returns-clause-at_once
returns-clause-at_once c =
    λ h. c.verdict_by_facts.ensures.at_once (HasFall-from_lists c.args.x.now c.args.y.now c.args.a c.args.b c.as_slice-xs.result.now c.as_slice-ys.result.now _ _ c.as_slice-xs.ensures c.as_slice-ys.ensures h)
