use Rattle.version_store.proofs.ClashLaws.{clashes_found}
use Rattle.version_store.proofs.laws.clashes_are_found.Goals as goal

pub returns : goal.returns
returns c = clashes_found
