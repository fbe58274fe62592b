use Rattle.std.proofs.Common.{◌≡◌, rules, refl, sym, subst}
use Rattle.std.specs.Prelude.{Some}
use Rattle.prog_tree.specs.declared.progress.Progress.{Progress}
use Rattle.prog_tree.specs.Tree.{program_tree}
use Rattle.prog_run.specs.Cursor.{cursor_tree}
use Rattle.prog_run.specs.Task.{cell_use_tree}
use Rattle.prog_run.specs.View.{IsTrueRun, IsTrueTo}
use Rattle.prog_run.specs.declared.task.Asked.TheVariants as asked
use Rattle.prog_run.proofs.GrowLemmas.{true_at}
use Rattle.prog_run.proofs.StepLemmas.{cell_step, true_answered}
use Rattle.prog_run.proofs.run.Run.answer_get.Goals as goal

pub returns-in_default-clause-true_run : goal.returns-in_default-clause-true_run
returns-in_default-clause-true_run c =
    let r = c.self.inside in
    subst IsTrueRun c.self.view_is (true_at _ (cursor_tree r.cursor) r.progress refl refl refl refl c.self.invariant.0)

pub returns-in_err-step-clause-true_run : goal.returns-in_err-step-clause-true_run
returns-in_err-step-clause-true_run c =
    let r = c.self.inside in
    let same = subst (λ (x : Progress). IsTrueTo r.set.now.tables.items (program_tree r.program.now) r.args r.end (cursor_tree r.cursor) x) (sym c.in_err-step.ensures.err) c.self.invariant.0 in
    true_at _ (cursor_tree r.cursor) c.answer_cell.new.progress refl refl refl refl same

-- the run is true to its program after the step too
still_true : (c : goal.After-next) → IsTrueTo c.self.inside.set.now.tables.items (program_tree c.self.inside.program.now) c.self.inside.args c.end-self-inside.result (cursor_tree c.go_on.new.self) c.answer_cell.new.progress
still_true c =
    let r = c.self.inside in
    let s = c.in-Some-OfCell in
    let old = cursor_tree r.cursor in
    let new = cursor_tree c.go_on.new.self in
    let q = c.answer_cell.new.progress in
    let n = c.in_ok-step.step in
    let waits : r.asked ≡ Some (asked.OfCell s.cell s.usage) = first_of (search rules, cc) in
    let at = c.self.invariant.1 (asked.OfCell s.cell s.usage) waits in
    let step = cell_step r.set.now.tables.items old new r.progress q s.cell (cell_use_tree s.usage) c.args.held at.1 n c.go_on.ensures c.in_ok-step.ensures.flow in
    true_answered r.set.now.tables.items (program_tree r.program.now) r.args r.end c.end-self-inside.result old new r.progress q n at.0 c.end-self-inside.ensures c.self.invariant.0 step

pub invariant_of-self-2 : goal.invariant_of-self-2
invariant_of-self-2 c = (still_true c, λ a e. absurd (cc))

pub returns-clause-true_run : goal.returns-clause-true_run
returns-clause-true_run c = true_at _ (cursor_tree c.go_on.new.self) c.answer_cell.new.progress refl refl refl refl (still_true c)
