use Rattle.version_store.proofs.CountLaws.{retained_at}
use Rattle.version_store.proofs.laws.retained_versions_stay.Goals as goal

pub returns : goal.returns
returns c = retained_at
