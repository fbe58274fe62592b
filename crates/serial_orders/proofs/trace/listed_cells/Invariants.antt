use Rattle.std.proofs.Common.{◌≡◌, ◌++◌}
use Rattle.prog_tree.specs.Table.{cells_of}
use Rattle.serial_orders.proofs.trace.listed_cells.Given as goal

abbrev pub invariant-loop-cell : goal.invariant-loop-cell
invariant-loop-cell l = (l.cells.items ++ cells_of l.cell-iterator) ≡ cells_of l.changes.cells
