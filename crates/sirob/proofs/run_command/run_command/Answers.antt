use Rattle.std.proofs.Common.{◌∙◌, sym}
use Rattle.sirob.proofs.StopLaws.{not_begun, lost, whole}
use Rattle.sirob.proofs.run_command.run_command.Goals as goal

pub returns-then-failed-clause-reply : goal.returns-then-failed-clause-reply
returns-then-failed-clause-reply g c =
    not_begun c.args.mode (g.S.Source.left c.args.source.now) (g.S.Source.has_failed c.args.source.now) _ _ (sym c.failed.ensures ∙ c.if-failed.true)

pub returns-then-failed-2-clause-reply : goal.returns-then-failed-2-clause-reply
returns-then-failed-2-clause-reply g c =
    lost c.args.mode (g.S.Source.left c.args.source.now) (g.S.Source.has_failed c.answer_source-ended.new.source) _ _ _ c.answer_source-ended.result
    (sym c.failed-2.ensures ∙ c.if-failed-2.true) c.answer_source-ended.ensures.done

pub returns-clause-reply : goal.returns-clause-reply
returns-clause-reply g c =
    whole c.args.mode (g.S.Source.left c.args.source.now) (g.S.Source.has_failed c.answer_source-ended.new.source) _ _ _ _ _ c.answer_source-ended.result c.write_end-status.result
    (sym c.failed-2.ensures ∙ c.if-failed-2.false) c.answer_source-ended.ensures.done c.write_end-status.ensures
