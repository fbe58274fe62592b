use Rattle.si_engine.proofs.MissedLaws.{law_of_last_steps}
use Rattle.si_engine.proofs.robust.laws.cycles_end_in_two_missed_changes.Goals as goal

pub returns : goal.returns
returns c = law_of_last_steps
