use Rattle.prog_paths.proofs.Membership.{law_of_listing}
use Rattle.prog_paths.proofs.Order.{law_of_order}
use Rattle.prog_paths.proofs.laws.law_of_listing.Goals as goal

pub returns-clause-questions : goal.returns-clause-questions
returns-clause-questions c = law_of_listing

pub returns-clause-order : goal.returns-clause-order
returns-clause-order c = law_of_order
