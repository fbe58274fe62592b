use Rattle.history_book.proofs.BookLaws.{true-withdrawn}
use Rattle.history_book.proofs.book.Book.withdraw.Goals as goal

pub invariant_of-self : goal.invariant_of-self
invariant_of-self c = (
  true-withdrawn _ c.ticket.inside.number c.remove.new.self c.self.invariant.0 c.remove.ensures.removed c.remove.ensures.ordered,
  record { stands = c.self.invariant.1.stands; commits = c.self.invariant.1.commits },
  c.self.invariant.2,
)
