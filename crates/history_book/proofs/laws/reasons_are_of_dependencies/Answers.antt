use Rattle.history_book.proofs.ReasonBooks.{reason_of_dependency}
use Rattle.history_book.proofs.laws.reasons_are_of_dependencies.Goals as goal

pub returns : goal.returns
returns c = reason_of_dependency
