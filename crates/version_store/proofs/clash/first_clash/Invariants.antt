use Rattle.version_store.specs.Reading.{number_at}
use Rattle.version_store.specs.Told.{told}
use Rattle.version_store.specs.Touches.{touches_left}
use Rattle.version_store.proofs.ClashLaws.{Finds}
use Rattle.version_store.proofs.clash.first_clash.Given as goal
use Rattle.version_store.proofs.TouchLaws.{touches_of}

abbrev pub invariant-loop-cell : goal.invariant-loop-cell
invariant-loop-cell l = Finds (number_at l.chains) l.start (touches_of l.changes) l.yielded (touches_left l.cell-iterator.changed l.cell-iterator.kept) (told l.least)
