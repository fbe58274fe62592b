use Rattle.si_workers.proofs.SharedLaws.{newest-of-no-number}
use Rattle.si_workers.proofs.shared.begin_newest.Goals as goal

pub returns : goal.returns
returns c = newest-of-no-number c.args.book.now c.args.program c.args.args.now c.begin.result c.begin.ensures.refused
