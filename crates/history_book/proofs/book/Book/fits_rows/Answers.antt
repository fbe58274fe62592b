use Rattle.std.proofs.Common.{◌≡◌, refl, sym, subst, ap, ◌∙◌, length, arith}
use Rattle.prog_tree.specs.Tree.{draft_tree}
use Rattle.history_book.specs.History.{IsCalled}
use Rattle.history_book.specs.View.{BookView, instance_of}
use Rattle.history_book.specs.Serial.{is_each_once}
use Rattle.history_book.proofs.SerialBooks.{not_again, one_more_again, at_end}
use Rattle.history_book.proofs.OnceLaws.{whole}
use Rattle.history_book.proofs.book.Book.fits_rows.Goals as goal

pub repeat-requires-clause-called : goal.repeat-requires-clause-called
repeat-requires-clause-called c =
    subst (λ s. IsCalled (draft_tree s) (instance_of c.known_row-row.result.now)) (sym c.loop-number.invariant.set) c.known_row-row.ensures.is_true.called

pub repeat-requires-clause-room : goal.repeat-requires-clause-room
repeat-requires-clause-room c =
    let all = whole c.len.result c.args.order.now (sym c.in_ok-is_each_once.ensures.once ∙ c.if-not-branch.false) in
    let rows = ap (λ (v : BookView). length v.rows) c.self.view_is in
    omega (arith, c.loop-number.invariant.endings, c.known_row-row.ensures.few, all.size, c.len.ensures, rows)

pub returns-then-not-branch-2 : goal.returns-then-not-branch-2
returns-then-not-branch-2 c =
    not_again c.args.self.now c.loop-number.serial c.args.order.now c.loop-number.number-index _ _ c.loop-number.invariant (omega (arith, c.loop-number-test.true)) refl
    c.known_row-row.result.now c.known_row-row.ensures.found c.known_row-row.ensures.is_true c.in_ok-repeat.field-0 c.in_ok-repeat.ensures.same c.if-not-branch-2.true

pub loop-number-preserved : goal.loop-number-preserved
loop-number-preserved c =
    one_more_again c.args.self.now c.loop-number.serial c.args.order.now c.loop-number.number-index _ _ c.loop-number.invariant (omega (arith, c.loop-number-test.true)) refl
    c.known_row-row.result.now c.known_row-row.ensures.found c.known_row-row.ensures.is_true c.repeat.new.self (c.in_ok-repeat.ensures.same.0 c.if-not-branch-2.false)
    (c.in_ok-repeat.ensures.taken c.if-not-branch-2.false)

pub returns : goal.returns
returns c =
    let rows = ap (λ (v : BookView). length v.rows) c.self.view_is in
    let size : c.len.result ≡ length c.args.self.now.rows = omega (arith, c.len.ensures, rows) in
    at_end c.args.self.now c.loop-number.serial c.args.order.now c.loop-number.number-index c.in_ok-is_each_once.field-0 c.is_same.result c.in_ok-rows.rows c.args.newest.now
    c.loop-number.invariant (omega arith)
    (c.in_ok-is_each_once.ensures.once ∙ ap (λ n. is_each_once n c.args.order.now) size) c.if-not-branch.false c.in_ok-rows.ensures c.requires c.is_same.ensures
