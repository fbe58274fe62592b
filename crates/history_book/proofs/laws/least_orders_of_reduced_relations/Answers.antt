use Rattle.serial_orders.proofs.ReducedLaws.{least_order_same, cycle_same}
use Rattle.history_book.proofs.laws.least_orders_of_reduced_relations.Goals as goal

pub returns-clause-order : goal.returns-clause-order
returns-clause-order c = least_order_same

pub returns-clause-cycles : goal.returns-clause-cycles
returns-clause-cycles c = cycle_same
