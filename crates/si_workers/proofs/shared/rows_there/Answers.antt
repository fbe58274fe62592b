use Rattle.si_workers.proofs.SharedLaws.{read-of-region}
use Rattle.si_workers.proofs.shared.rows_there.Goals as goal

pub returns : goal.returns
returns c = read-of-region c.args.book.now c.args.ticket.now c.args.region.now c.scan.result c.scan.ensures
