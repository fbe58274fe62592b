use Rattle.std.proofs.Common.{ap, sym, ◌∙◌, arith}
use Rattle.std.specs.List.{list_all}
use Rattle.history_book.proofs.OnceLaws.{once_by_marks, within_range}
use Rattle.history_book.proofs.orders.fits.is_each_once.Goals as goal

pub returns-clause-once : goal.returns-clause-once
returns-clause-once c =
    once_by_marks c.args.n c.args.order.now c.in_ok-marks.marks.items c.all_marked.result (omega (arith, c.if-order-n.false)) c.in_ok-marks.ensures
    (c.all_marked.ensures ∙ ap (list_all (λ mark. mark)) c.deref.ensures.value)

pub returns-clause-within : goal.returns-clause-within
returns-clause-within c = λ all k d within.
    let once = once_by_marks c.args.n c.args.order.now c.in_ok-marks.marks.items c.all_marked.result (omega (arith, c.if-order-n.false)) c.in_ok-marks.ensures
    (c.all_marked.ensures ∙ ap (list_all (λ mark. mark)) c.deref.ensures.value) in
    within_range c.args.n c.args.order.now (sym once ∙ all) k d within
