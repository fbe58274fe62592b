use Rattle.serial_orders.proofs.CycleLaws.{no_cycle}
use Rattle.history_book.proofs.laws.orders_are_of_relations_without_a_cycle.Goals as goal

pub returns : goal.returns
returns c = λ n before within. no_cycle before n within
