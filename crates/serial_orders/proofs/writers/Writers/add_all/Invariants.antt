use Rattle.std.proofs.Common.{drop}
use Rattle.serial_orders.proofs.WriterLaws.{AddsNumber}
use Rattle.serial_orders.proofs.writers.Writers.add_all.Given as goal

abbrev pub invariant-loop-cell : goal.invariant-loop-cell
invariant-loop-cell l = AddsNumber l.number l.cells (drop l.cell-index l.cells) l.fn.self l.self
