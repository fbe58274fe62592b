use Rattle.repair_laws.proofs.OnePlan.{law_of_one_plan}
use Rattle.repair_laws.proofs.laws.law_of_one_plan.Goals as goal

pub returns : goal.returns
returns c = law_of_one_plan
