use Rattle.std.proofs.Common.{◌≡◌, [], ◌∷◌, ◌++◌, rules, refl, sym, ap, ◌∙◌}
use Rattle.std.specs.Prelude.{Some}
use Rattle.prog_tree.specs.Tree.{program_tree}
use Rattle.prog_tree.specs.Steps.{looked}
use Rattle.prog_run.specs.Cursor.{cursor_tree}
use Rattle.prog_run.specs.Looks.{region_look, seen_rows}
use Rattle.prog_run.specs.Task.{region_use_tree, rows_flow}
use Rattle.prog_run.specs.Step.{deeds_after, changes_after, question_after, end_after}
use Rattle.prog_run.specs.View.{RunView, IsTrueTo, question_in}
use Rattle.prog_run.specs.declared.task.Asked.TheVariants as asked
use Rattle.prog_run.proofs.GrowLemmas.{true_at}
use Rattle.prog_run.proofs.StepLemmas.{rows_step, answer_adds, asked_for_rows, true_answered, unchanged}
use Rattle.prog_run.proofs.run.Run.answer_rows.Goals as goal

pub returns-in_err-step-clause-true_run : goal.returns-in_err-step-clause-true_run
returns-in_err-step-clause-true_run c =
    let r = c.self.inside in
    let new = cursor_tree c.answer_region.new.self in
    let q = c.answer_region.new.progress in
    let e = c.in_err-step.ensures in
    true_at _ new q refl refl refl refl (unchanged (IsTrueTo r.set.now.tables.items (program_tree r.program.now) r.args r.end) (cursor_tree r.cursor) new r.progress q e.err e.err_progress c.self.invariant.0)

-- the run is true to its program after the step too
still_true : (c : goal.After-next) → IsTrueTo c.self.inside.set.now.tables.items (program_tree c.self.inside.program.now) c.self.inside.args c.end-self-inside.result (cursor_tree c.answer_region.new.self) c.answer_region.new.progress
still_true c =
    let r = c.self.inside in
    let s = c.in-Some-OfRegion in
    let old = cursor_tree r.cursor in
    let new = cursor_tree c.answer_region.new.self in
    let q = c.answer_region.new.progress in
    let n = c.in_ok-step.step in
    let waits : r.asked ≡ Some (asked.OfRegion s.region s.usage) = first_of (search rules, cc) in
    let at = c.self.invariant.1 (asked.OfRegion s.region s.usage) waits in
    let step = rows_step r.set.now.tables.items old new r.progress q s.region (region_use_tree s.usage) c.args.rows at.1 n c.in_ok-step.ensures.cursor c.in_ok-step.ensures.flow in
    true_answered r.set.now.tables.items (program_tree r.program.now) r.args r.end c.end-self-inside.result old new r.progress q n at.0 c.end-self-inside.ensures c.self.invariant.0 step

pub invariant_of-self-2 : goal.invariant_of-self-2
invariant_of-self-2 c = (still_true c, λ a e. absurd (cc))

pub returns-clause-true_run : goal.returns-clause-true_run
returns-clause-true_run c = true_at _ (cursor_tree c.answer_region.new.self) c.answer_region.new.progress refl refl refl refl (still_true c)

pub returns-clause-answered : goal.returns-clause-answered
returns-clause-answered c =
    let r = c.self.inside in
    let s = c.in-Some-OfRegion in
    let p = r.progress in
    let q = c.answer_region.new.progress in
    let n = c.in_ok-step.step in
    let rows = c.args.rows in
    let look = region_look p.changes s.region rows in
    let half = rows_flow (region_use_tree s.usage) s.region (seen_rows p.changes s.region rows) (looked look p) in
    let adds = answer_adds look half n p q c.in_ok-step.ensures.flow in
    let waits : r.asked ≡ Some (asked.OfRegion s.region s.usage) = first_of (search rules, cc) in
    asked_for_rows _ s.region _ (ap (λ (v : RunView). v.asked) (sym c.self.view_is) ∙ ap question_in waits)
    (record {
      deeds = adds.0 ∙ (λ i. deeds_after (sym c.next.ensures i) (c.self.view_is i).deeds);
      changes = adds.3 ∙ (λ i. changes_after (sym c.next.ensures i) (c.self.view_is i).changes);
      replies = adds.4 ∙ ap (λ (v : RunView). v.replies) c.self.view_is;
      looks = adds.1 ∙ ap (λ (v : RunView). v.looks ++ region_look v.changes s.region rows ∷ []) c.self.view_is;
      asked = refl;
      finished = ap question_after c.next.ensures ∙ adds.2;
      end = c.end-self-inside.ensures ∙ ap end_after (sym c.next.ensures);
    })
