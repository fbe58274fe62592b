use Rattle.std.proofs.Common.{refl}
use Rattle.version_store.proofs.StandsLaws.{stands-open}
use Rattle.version_store.proofs.store.Store.open.Goals as goal

pub returns : goal.returns
returns c = record { stands = stands-open _ c.args.opening.now c.len.ensures.ordered c.in_ok-open.ensures.rows c.in_ok-open.ensures.hold c.new.ensures refl refl c.len.ensures.len }
