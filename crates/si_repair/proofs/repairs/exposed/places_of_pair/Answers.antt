use Rattle.si_repair.proofs.Exposed.{places_of_pair}
use Rattle.si_repair.proofs.repairs.exposed.places_of_pair.Goals as goal

pub returns : goal.returns
returns c = places_of_pair c.args.paths.now c.args.pair c.in_ok-reads.reads.items c.in_ok-changes.changes.items c.in_ok-reads.ensures c.in_ok-changes.ensures
