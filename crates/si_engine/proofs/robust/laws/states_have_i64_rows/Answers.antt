use Rattle.si_engine.proofs.RowLaws.{rows_after}
use Rattle.si_engine.proofs.robust.laws.states_have_i64_rows.Goals as goal

pub returns : goal.returns
returns c = rows_after
