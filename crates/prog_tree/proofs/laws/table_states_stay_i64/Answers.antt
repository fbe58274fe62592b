use Rattle.prog_tree.proofs.NumberLaws.{HasI64Rows-with_row, HasI64Rows-without_row, HasI64Rows-changed}
use Rattle.prog_tree.proofs.laws.table_states_stay_i64.Goals as goal

pub returns-clause-written : goal.returns-clause-written
returns-clause-written c = HasI64Rows-with_row

pub returns-clause-removed : goal.returns-clause-removed
returns-clause-removed c = HasI64Rows-without_row

pub returns-clause-changed : goal.returns-clause-changed
returns-clause-changed c = HasI64Rows-changed
