use Rattle.std.proofs.lemmas.Result.{IfOk-weaker}
use Rattle.prog_paths.specs.Questions.{two, between}
use Rattle.conflict_pairs.specs.Verdicts.{TellsExposed}
use Rattle.conflict_pairs.proofs.Meaning.{TellsExposed-from_lists, HasFall-from_lists}
use Rattle.conflict_pairs.proofs.judge.is_exposed_question.Goals as goal

pub returns-clause-exposed : goal.returns-clause-exposed
returns-clause-exposed c =
    IfOk-weaker c.is_left_open_by_facts.result _ (λ told. TellsExposed (two c.args.x.now c.args.y.now) (between c.args.a c.args.b) told)
    (λ told h. TellsExposed-from_lists c.args.x.now c.args.y.now c.args.a c.args.b c.as_slice-xs.result.now c.as_slice-ys.result.now _ _
    c.requires.question c.requires.single_x c.requires.single_y c.as_slice-xs.ensures c.as_slice-ys.ensures told h) c.is_left_open_by_facts.ensures.told

pub returns-clause-at_once : goal.returns-clause-at_once
returns-clause-at_once c =
    λ h. c.is_left_open_by_facts.ensures.at_once (HasFall-from_lists c.args.x.now c.args.y.now c.args.a c.args.b c.as_slice-xs.result.now c.as_slice-ys.result.now _ _ c.as_slice-xs.ensures c.as_slice-ys.ensures h)
