use Rattle.si_workers.proofs.SharedLaws.{read-of-region}
use Rattle.si_workers.proofs.logged_book.LoggedBook.scan.Goals as goal

pub returns-clause-rows : goal.returns-clause-rows
returns-clause-rows g c = read-of-region c.self.inside.book c.args.ticket.now c.args.region.now c.scan_pieces.result c.scan_pieces.ensures
