use Rattle.std.proofs.Common.{ap}
use Rattle.history_book.specs.Ticket.{TicketView}
use Rattle.history_book.proofs.CommitLaws.{true_abort, is_aborted}
use Rattle.history_book.proofs.book.Book.end_own.Goals as goal

pub conclude-requires-clause-is_true : goal.conclude-requires-clause-is_true
conclude-requires-clause-is_true c =
    let e = c.in_ok-row.ensures in
    true_abort c.args.self.now c.args.ticket.now c.args.run.now c.in_ok-row.row e.row c.cause_of.ensures.true_run c.in-Some.cause c.in-Some.ensures.aborted e.within

pub returns-clause-ok : goal.returns-clause-ok
returns-clause-ok c =
    is_aborted c.args.self.now c.args.ticket.now c.args.run.now c.in_ok-row.row c.in_ok-row.ensures.row c.cause_of.ensures.true_run c.conclude.new.self c.in-Some.cause c.ticket.inside.number c.in-Some.ensures.aborted
    (ap (λ (t : TicketView). t.number) c.ticket.view_is) c.in_ok-conclude.ensures.ok
