use Rattle.std.proofs.Common.{◌≡◌, ◌≤◌, ℕ, List, length, sym, subst, ap, ◌∙◌, arith}
use Rattle.serial_orders.specs.Orders.{is_one_of}
use Rattle.history_book.specs.View.{BookView}
use Rattle.history_book.proofs.SerialBooks.{NoneUpTo, none_begins, placed_already, none_behind}
use Rattle.history_book.proofs.book.Book.+placing.Goals as goal

pub complete-returns-clause-none : goal.complete-returns-clause-none
complete-returns-clause-none t c = λ _ rest fits.
    let v = c.args.self.now in
    let rows = ap (λ (b : BookView). length b.rows) c.self.view_is in
    let none = subst (λ (xs : List ℕ). NoneUpTo v xs c.loop-before.before) c.loop-before.invariant.0 c.loop-before.invariant.1 in
    let other = λ (same : length c.args.placed.now.items ≡ length v.rows). c.if-len.false (omega (arith, same, rows, c.len.ensures, c.len-2.ensures)) in
    let all : length v.rows ≤ c.loop-before.before = omega (arith, rows, c.loop-before-test.false, c.len-before-end.ensures) in
    none_begins v c.args.placed.now.items rest c.loop-before.before other all none fits

pub place-returns-then-is_one_of-clause-none : goal.place-returns-then-is_one_of-clause-none
place-returns-then-is_one_of-clause-none t c = λ _ rest fits.
    let has = ap (λ (xs : List ℕ). is_one_of xs c.args.number) (sym c.deref.ensures.value) ∙ sym c.is_one_of.ensures ∙ c.if-is_one_of.true in
    placed_already c.args.self.now c.args.placed.now.items rest c.args.number has fits

pub place-returns-clause-none : goal.place-returns-clause-none
place-returns-clause-none t c = λ _ rest fits.
    none_behind c.args.self.now c.args.placed.now.items c.push.new.self.items rest c.args.number c.in_ok-push.ensures.items (c.in_ok-complete.ensures.none c.if-branch.false) fits
