use Rattle.robust_cert.proofs.Safety.{law_of_acceptance}
use Rattle.robust_cert.proofs.laws.law_of_acceptance.Goals as goal

pub returns : goal.returns
returns c = law_of_acceptance
