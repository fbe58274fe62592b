use Rattle.si_engine.proofs.InsertLaws.{law_of_inserts, law_of_single_inserts}
use Rattle.si_engine.proofs.robust.laws.grow_tables_gain_each_row_once.Goals as goal

pub returns-clause-there : goal.returns-clause-there
returns-clause-there c = law_of_inserts

pub returns-clause-once : goal.returns-clause-once
returns-clause-once c = law_of_single_inserts
