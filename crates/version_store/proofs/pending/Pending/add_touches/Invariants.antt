use Rattle.prog_tree.specs.Table.{cells_of}
use Rattle.version_store.specs.Touches.{touches_left}
use Rattle.version_store.proofs.VacuumLaws.{Adds}
use Rattle.version_store.proofs.pending.Pending.add_touches.Given as goal
use Rattle.version_store.proofs.TouchLaws.{touches_of}

abbrev pub invariant-loop-cell : goal.invariant-loop-cell
invariant-loop-cell l = Adds l.number (cells_of (touches_of l.changes)) (cells_of (touches_left l.cell-iterator.changed l.cell-iterator.kept)) l.fn.self l.self
