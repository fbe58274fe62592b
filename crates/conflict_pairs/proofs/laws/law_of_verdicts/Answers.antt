use Rattle.conflict_pairs.proofs.Exactness.{law_of_verdicts}
use Rattle.conflict_pairs.proofs.laws.law_of_verdicts.Goals as goal

pub returns : goal.returns
returns c = law_of_verdicts
