use Rattle.prog_tree.proofs.NumberRuns.{evaluations_write_i64}
use Rattle.prog_tree.proofs.laws.evaluations_write_i64.Goals as goal

pub returns : goal.returns
returns c = evaluations_write_i64
