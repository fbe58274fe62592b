use Rattle.std.proofs.Common.{◌∙◌, sym}
use Rattle.sirob.specs.declared.command_line.Mode.TheVariants.{Work}
use Rattle.sirob.proofs.StopLaws.{not_begun, lost, whole}
use Rattle.sirob.proofs.run_work.run_work.Goals as goal

pub returns-then-failed-clause-reply : goal.returns-then-failed-clause-reply
returns-then-failed-clause-reply g c =
    not_begun (Work c.args.workers) (g.S.Source.left c.args.source.now) (g.S.Source.has_failed c.args.source.now) _ _ (sym c.failed.ensures ∙ c.if-failed.true)

pub returns-then-failed-2-clause-reply : goal.returns-then-failed-2-clause-reply
returns-then-failed-2-clause-reply g c =
    lost (Work c.args.workers) (g.S.Source.left c.args.source.now) (g.S.Source.has_failed c.work_source-ended.new.source) _ _ _ c.work_source-ended.result
    (sym c.failed-2.ensures ∙ c.if-failed-2.true) c.work_source-ended.ensures.done

pub returns-clause-reply : goal.returns-clause-reply
returns-clause-reply g c =
    whole (Work c.args.workers) (g.S.Source.left c.args.source.now) (g.S.Source.has_failed c.work_source-ended.new.source) _ _ _ _ _ c.work_source-ended.result c.write_end-status.result
    (sym c.failed-2.ensures ∙ c.if-failed-2.false) c.work_source-ended.ensures.done c.write_end-status.ensures
