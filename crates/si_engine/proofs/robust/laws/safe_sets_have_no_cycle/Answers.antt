use Rattle.si_engine.proofs.CycleLaws.{law_of_safe_sets}
use Rattle.si_engine.proofs.robust.laws.safe_sets_have_no_cycle.Goals as goal

pub returns : goal.returns
returns c = law_of_safe_sets
