use Rattle.history_book.proofs.FitLaws.{least_order-fits, dependencies_without_cycle}
use Rattle.history_book.proofs.laws.least_orders_fit.Goals as goal

pub returns-clause-fits : goal.returns-clause-fits
returns-clause-fits c = least_order-fits

pub returns-clause-acyclic : goal.returns-clause-acyclic
returns-clause-acyclic c = dependencies_without_cycle
