use Rattle.std.proofs.Common.{◌≡◌, rules, refl, ap, sym, subst, ◌∙◌}
use Rattle.std.specs.Prelude.{None}
use Rattle.prog_tree.specs.Tree.{program_tree}
use Rattle.prog_run.specs.Cursor.{BeginsWith, cursor_tree}
use Rattle.prog_run.specs.View.{RunView, IsTrueRun, IsTrueTo, question_in}
use Rattle.prog_run.specs.Step.{deeds_after, changes_after, question_after, end_after}
use Rattle.prog_run.proofs.GrowLemmas.{true_at}
use Rattle.prog_run.proofs.StepLemmas.{true_answered, true_still, step_deeds, step_changes, step_replies, step_question}
use Rattle.prog_run.proofs.run.Run.advance.Goals as goal

pub returns-in-Some-clause-true_run : goal.returns-in-Some-clause-true_run
returns-in-Some-clause-true_run c =
    let r = c.self.inside in
    subst IsTrueRun c.self.view_is (true_at _ (cursor_tree r.cursor) r.progress refl refl refl refl c.self.invariant.0)

pub returns-in_err-step-clause-true_run : goal.returns-in_err-step-clause-true_run
returns-in_err-step-clause-true_run c =
    let r = c.self.inside in
    let old = cursor_tree r.cursor in
    let new = cursor_tree c.step.new.self in
    let q = c.step.new.progress in
    let over : r.end ≡ None = search rules in
    let t = subst (λ o. IsTrueTo r.set.now.tables.items (program_tree r.program.now) r.args o old r.progress) over c.self.invariant.0 in
    let still = true_still r.set.now.tables.items (program_tree r.program.now) r.args old new r.progress q t c.in_err-step.ensures.err c.in_err-step.ensures.err_store in
    true_at _ new q refl refl refl refl (subst (λ o. IsTrueTo r.set.now.tables.items (program_tree r.program.now) r.args o new q) (sym over) still)

pub returns-clause-advance : goal.returns-clause-advance
returns-clause-advance c =
    let r = c.self.inside in
    let n = c.in_ok-step.step in
    record {
      deeds = step_deeds r.set.now.tables.items (cursor_tree r.cursor) (cursor_tree c.step.new.self) r.progress c.step.new.progress n c.in_ok-step.ensures.step ∙ (λ i. deeds_after (sym c.next-2.ensures i) (c.self.view_is i).deeds);
      changes = step_changes r.set.now.tables.items (cursor_tree r.cursor) (cursor_tree c.step.new.self) r.progress c.step.new.progress n c.in_ok-step.ensures.step ∙ (λ i. changes_after (sym c.next-2.ensures i) (c.self.view_is i).changes);
      replies = subst (λ (v : RunView). BeginsWith v.replies c.step.new.progress.replies) c.self.view_is (step_replies r.set.now.tables.items (cursor_tree r.cursor) (cursor_tree c.step.new.self) r.progress c.step.new.progress n c.in_ok-step.ensures.step);
      looks = c.in_ok-step.ensures.looks ∙ ap (λ (v : RunView). v.looks) c.self.view_is;
      asked = ap question_in c.asked-self-inside.ensures ∙ step_question n ∙ ap question_after (sym c.next-2.ensures);
      end = c.end-self-inside.ensures ∙ ap end_after (sym c.next-2.ensures);
    }

pub returns-clause-true_run : goal.returns-clause-true_run
returns-clause-true_run c =
    let r = c.self.inside in
    let new = cursor_tree c.step.new.self in
    let q = c.step.new.progress in
    let over : r.end ≡ None = search rules in
    true_at _ new q refl refl refl refl
    (true_answered r.set.now.tables.items (program_tree r.program.now) r.args r.end c.end-self-inside.result (cursor_tree r.cursor) new r.progress q c.in_ok-step.step over c.end-self-inside.ensures c.self.invariant.0 c.in_ok-step.ensures.step)
