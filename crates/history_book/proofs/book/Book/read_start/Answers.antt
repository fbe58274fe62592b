use Rattle.history_book.proofs.BookLaws.{start_known}
use Rattle.history_book.proofs.book.Book.read_start.Goals as goal

pub returns-clause-above : goal.returns-clause-above
returns-clause-above c = (start_known c.args.self.now c.args.ticket.now c.commits.ensures.true_book c.requires).0

pub returns-clause-within : goal.returns-clause-within
returns-clause-within c = (start_known c.args.self.now c.args.ticket.now c.commits.ensures.true_book c.requires).1
