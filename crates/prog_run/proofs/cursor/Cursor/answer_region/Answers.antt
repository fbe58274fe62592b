use Rattle.std.proofs.Common.{◌≡◌, List, [], ◌∷◌, ◌++◌, sym, subst, ◌∙◌}
use Rattle.std.specs.Prelude.{OnOk, OnErr}
use Rattle.prog_tree.specs.declared.look.Look.{Look}
use Rattle.prog_run.specs.Cursor.{cursor_tree}
use Rattle.prog_run.specs.Looks.{region_look, seen_rows}
use Rattle.prog_run.specs.Task.{region_use_tree}
use Rattle.prog_run.proofs.AsideLaws.{used_aside, cursor_aside, back_aside}
use Rattle.prog_run.proofs.cursor.Cursor.answer_region.Goals as goal

pub returns-clause-flow : goal.returns-clause-flow
returns-clause-flow c =
    let p = c.args.progress.now in
    let look = region_look p.changes c.args.region c.args.rows in
    let seen = seen_rows p.changes c.args.region c.args.rows in
    let before = c.into_vec-looks.ensures ∙ c.replace.ensures.value in
    let noted =
    subst (λ (looks : List Look). OnOk c.look-step.result (looks ≡ p.looks ++ look ∷ [])) (sym c.from_vec.ensures)
    (subst (λ (looks : List Look). OnOk c.look-step.result (c.look-step.new.looks.items ≡ looks ++ look ∷ [])) before c.look-step.ensures.look) in
    used_aside p c.look-step.new.progress c.replace.new.dest c.from_vec.result c.look-step.result (region_use_tree c.args.usage) c.args.region seen look
    (cursor_tree c.args.self.now) (cursor_tree c.look-step.new.self) c.look-step.ensures.used noted

pub returns-clause-cursor : goal.returns-clause-cursor
returns-clause-cursor c =
    let p = c.args.progress.now in
    let seen = seen_rows p.changes c.args.region c.args.rows in
    cursor_aside p c.look-step.new.progress c.replace.new.dest c.from_vec.result c.look-step.result (region_use_tree c.args.usage) c.args.region seen
    (cursor_tree c.args.self.now) (cursor_tree c.look-step.new.self) c.look-step.ensures.used

pub returns-clause-err_progress : goal.returns-clause-err_progress
returns-clause-err_progress c =
    let p = c.args.progress.now in
    let before = c.into_vec-looks.ensures ∙ c.replace.ensures.value in
    let noted =
    subst (λ (looks : List Look). OnErr c.look-step.result (looks ≡ p.looks)) (sym c.from_vec.ensures)
    (subst (λ (looks : List Look). OnErr c.look-step.result (c.look-step.new.looks.items ≡ looks)) before c.look-step.ensures.err_looks) in
    back_aside p c.look-step.new.progress c.replace.new.dest c.from_vec.result c.look-step.result c.look-step.ensures.err_progress noted
