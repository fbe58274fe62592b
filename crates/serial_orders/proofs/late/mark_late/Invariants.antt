use Rattle.serial_orders.proofs.LateLaws.{AreLateUpTo}
use Rattle.serial_orders.proofs.late.mark_late.Given as goal

abbrev pub invariant-loop-index : goal.invariant-loop-index
invariant-loop-index l = AreLateUpTo l.traces l.slots l.late l.index
