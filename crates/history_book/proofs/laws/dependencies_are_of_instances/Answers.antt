use Rattle.history_book.proofs.DependencyLaws.{depends_within}
use Rattle.history_book.proofs.laws.dependencies_are_of_instances.Goals as goal

pub returns : goal.returns
returns c = depends_within
