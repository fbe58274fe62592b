use Rattle.std.proofs.Common.{◌≡◌, ◌≤◌, [], length, ap, ◌∙◌, subst, arith}
use Rattle.std.proofs.lemmas.Result.{err_from_is_err_and}
use Rattle.prog_tree.specs.Tree.{draft_tree}
use Rattle.prog_tree.proofs.Elements.{more_yielded, all_yielded}
use Rattle.history_book.specs.Audit.{audited, taken_up, IsRightRow, AreRightBehind}
use Rattle.history_book.specs.View.{BookView, history_of, most_endings}
use Rattle.history_book.proofs.AuditLaws.{taken_up-audited, right-push, refused_at, room_left}
use Rattle.history_book.proofs.book.Book.audit.Goals as goal

pub loop-row-init : goal.loop-row-init
loop-row-init c = (c.into_iter-row-iterator.ensures.into_iter_gives.0, c.in_ok-book.ensures, tt)

pub loop-row-preserved : goal.loop-row-preserved
loop-row-preserved c =
    let before = c.loop-row.invariant in
    let set = c.args.set.now in
    let opening = c.args.opening in
    let right = subst (λ (v : BookView). IsRightRow (draft_tree v.set) v.opening (history_of v.rows) c.in-Some.row) before.1 c.in_ok-add_row.ensures.right in (
      more_yielded c.loop-row.yielded _ _ _ c.in-Some.row before.0 c.in-Some.ensures.steps.0,
      c.in_ok-add_row.ensures.taken ∙ ap (λ v. taken_up v c.in-Some.row) before.1 ∙ taken_up-audited set opening c.loop-row.yielded c.in-Some.row,
      right-push (draft_tree set) opening [] c.loop-row.yielded c.in-Some.row before.2 right,
    )

pub returns-in_err-add_row-clause-refused : goal.returns-in_err-add_row-clause-refused
returns-in_err-add_row-clause-refused c =
    let p = err_from_is_err_and c.from_residual-in_err-add_row.result c.from_residual-in_err-add_row.ensures.1 in
    let before = c.loop-row.invariant in
    let few : length c.args.rows.items ≤ most_endings = omega arith in
    let wrong = refused_at c.loop-row.book c.args.set.now c.args.opening c.loop-row.yielded _ _ c.args.rows.items c.in-Some.row c.in_err-add_row.field-0.0
    before.1 before.0 c.in-Some.ensures.steps.0 few before.2 c.in_err-add_row.ensures.refused in
    rw (p.1, p.2) wrong

pub returns-clause-book : goal.returns-clause-book
returns-clause-book c =
    let before = c.loop-row.invariant in
    let none : length c.loop-row.row-iterator.rest.items ≡ 0 = omega (arith, c.in-None.ensures.steps.0) in
    before.1 ∙ ap (audited c.args.set.now c.args.opening) (all_yielded c.loop-row.yielded _ c.args.rows.items before.0 none)

pub add_row-requires-clause-room : goal.add_row-requires-clause-room
add_row-requires-clause-room c =
    let before = c.loop-row.invariant in
    let more = room_left c.loop-row.book c.args.set.now c.args.opening c.loop-row.yielded _ _ c.args.rows.items c.in-Some.row before.1 before.0 c.in-Some.ensures.steps.0 in
    omega (arith, more)

pub returns-clause-right : goal.returns-clause-right
returns-clause-right c =
    let before = c.loop-row.invariant in
    let none : length c.loop-row.row-iterator.rest.items ≡ 0 = omega (arith, c.in-None.ensures.steps.0) in
    subst (AreRightBehind (draft_tree c.args.set.now) c.args.opening []) (all_yielded c.loop-row.yielded _ c.args.rows.items before.0 none) before.2
