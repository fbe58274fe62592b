use Rattle.serial_orders.proofs.HorizonLaws.{AreLastUpTo}
use Rattle.serial_orders.proofs.horizons.last_begun.Given as goal

abbrev pub invariant-loop-index : goal.invariant-loop-index
invariant-loop-index l = AreLastUpTo l.traces l.last.items l.index
