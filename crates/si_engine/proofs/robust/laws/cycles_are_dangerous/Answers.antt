use Rattle.si_engine.proofs.CycleLaws.{law_of_cycles}
use Rattle.si_engine.proofs.robust.laws.cycles_are_dangerous.Goals as goal

pub returns : goal.returns
returns c = law_of_cycles
