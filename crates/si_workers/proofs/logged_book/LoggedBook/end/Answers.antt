use Rattle.si_workers.proofs.KnownLaws.{states-kept-by-end}
use Rattle.si_workers.proofs.logged_book.LoggedBook.end.Goals as goal

pub invariant_of-self : goal.invariant_of-self
invariant_of-self g c =
    states-kept-by-end c.self.inside.book c.end_found.new.self c.args.ticket c.args.run c.end_found.result c.self.inside.front
    c.end_found.ensures.ok c.end_found.ensures.err c.self.invariant
