use Rattle.std.proofs.Common.{◌≡◌, take}
use Rattle.prog_tree.specs.Table.{cells_of}
use Rattle.prog_run.proofs.region.changed_cells.Given as goal

abbrev pub invariant-loop-cell : goal.invariant-loop-cell
invariant-loop-cell l = l.cells.items ≡ cells_of (take l.cell-index l.own)
