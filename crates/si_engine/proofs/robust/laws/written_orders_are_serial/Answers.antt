use Rattle.si_engine.proofs.WrittenLaws.{law_of_written_orders}
use Rattle.si_engine.proofs.robust.laws.written_orders_are_serial.Goals as goal

pub returns : goal.returns
returns c = law_of_written_orders
