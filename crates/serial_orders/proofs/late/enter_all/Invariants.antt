use Rattle.std.proofs.Common.{drop}
use Rattle.serial_orders.proofs.LateLaws.{EntersRest}
use Rattle.serial_orders.proofs.late.enter_all.Given as goal

abbrev pub invariant-loop-cell : goal.invariant-loop-cell
invariant-loop-cell l = EntersRest l.cells (drop l.cell-index l.cells) l.number l.fn.slots l.slots
