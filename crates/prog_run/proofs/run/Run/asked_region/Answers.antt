use Rattle.std.proofs.Common.{refl, ap, sym, subst, ◌∙◌}
use Rattle.std.specs.Prelude.{Option}
use Rattle.prog_run.specs.Cursor.{cursor_tree}
use Rattle.prog_run.specs.View.{RunView, IsTrueRun, asked_region, question_in}
use Rattle.prog_run.specs.declared.task.Asked.{Asked}
use Rattle.prog_run.proofs.GrowLemmas.{true_at}
use Rattle.prog_run.proofs.run.Run.asked_region.Goals as goal

pub returns-in_err-asked-clause-true_run : goal.returns-in_err-asked-clause-true_run
returns-in_err-asked-clause-true_run c =
    let r = c.self.inside in
    subst IsTrueRun c.self.view_is (true_at _ (cursor_tree r.cursor) r.progress refl refl refl refl c.self.invariant.0)

pub returns-clause-region : goal.returns-clause-region
returns-clause-region c =
    c.region.ensures
    ∙ ap (λ (o : Option Asked). asked_region (question_in o)) (sym c.in_ok-asked.was)
    ∙ ap (λ (v : RunView). asked_region v.asked) c.self.view_is

pub returns-clause-true_run : goal.returns-clause-true_run
returns-clause-true_run c =
    let r = c.self.inside in
    subst IsTrueRun c.self.view_is (true_at _ (cursor_tree r.cursor) r.progress refl refl refl refl c.self.invariant.0)
