use Rattle.std.proofs.Common.{◌≤◌, length, sym, subst}
use Rattle.prog_tree.specs.Tree.{draft_tree}
use Rattle.history_book.specs.History.{IsCalled}
use Rattle.history_book.specs.View.{BookView}
use Rattle.history_book.proofs.BookLaws.{found_active}
use Rattle.history_book.proofs.book.Book.active_instance.Goals as goal

pub returns-then-active-ticket-clause-called : goal.returns-then-active-ticket-clause-called
returns-then-active-ticket-clause-called c =
    subst (λ (v : BookView). IsCalled (draft_tree v.set) c.in_ok-active.active.now) c.self.view_is
    (found_active _ c.ticket.inside.number c.in_ok-active.active.now c.self.invariant.0 (sym c.in_ok-active.ensures)).1.called

pub returns-then-active-ticket-clause-above : goal.returns-then-active-ticket-clause-above
returns-then-active-ticket-clause-above c =
    subst (λ (v : BookView). v.floor ≤ c.in_ok-active.active.now.start) c.self.view_is
    (found_active _ c.ticket.inside.number c.in_ok-active.active.now c.self.invariant.0 (sym c.in_ok-active.ensures)).1.floor

pub returns-then-active-ticket-clause-within : goal.returns-then-active-ticket-clause-within
returns-then-active-ticket-clause-within c =
    subst (λ (v : BookView). c.in_ok-active.active.now.start ≤ length v.rows) c.self.view_is
    (found_active _ c.ticket.inside.number c.in_ok-active.active.now c.self.invariant.0 (sym c.in_ok-active.ensures)).1.start
