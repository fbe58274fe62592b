use Rattle.std.proofs.Common.{refl, subst}
use Rattle.prog_run.specs.Cursor.{cursor_tree}
use Rattle.prog_run.specs.View.{IsTrueRun}
use Rattle.prog_run.proofs.GrowLemmas.{true_at}
use Rattle.prog_run.proofs.run.Run.done.Goals as goal

pub returns-clause-true_run : goal.returns-clause-true_run
returns-clause-true_run c =
    let r = c.self.inside in
    subst IsTrueRun c.self.view_is (true_at _ (cursor_tree r.cursor) r.progress refl refl refl refl c.self.invariant.0)
