use Rattle.prog_paths.proofs.SingleCells.{law_of_single_changes}
use Rattle.prog_paths.proofs.laws.law_of_single_changes.Goals as goal

pub returns : goal.returns
returns c = law_of_single_changes
