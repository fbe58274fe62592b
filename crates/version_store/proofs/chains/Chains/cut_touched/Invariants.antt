use Rattle.version_store.specs.Touches.{touches_left}
use Rattle.version_store.proofs.Walks.{CutsTouches}
use Rattle.version_store.proofs.chains.Chains.cut_touched.Given as goal
use Rattle.version_store.proofs.TouchLaws.{touches_of}

abbrev pub invariant-loop-cell : goal.invariant-loop-cell
invariant-loop-cell l = CutsTouches l.number (touches_of l.changes) (touches_left l.cell-iterator.changed l.cell-iterator.kept) l.fn.self l.self
