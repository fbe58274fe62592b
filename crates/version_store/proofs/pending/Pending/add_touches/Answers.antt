use Rattle.std.proofs.Common.{◌++◌, ◌∙◌, ap}
use Rattle.prog_tree.specs.Table.{cells_of}
use Rattle.version_store.specs.Touches.{touches_left}
use Rattle.version_store.proofs.TouchLaws.{numbered_touches, touches_of}
use Rattle.version_store.proofs.VacuumLaws.{adds_all}
use Rattle.version_store.proofs.pending.Pending.add_touches.Goals as goal

pub returns-clause-ok : goal.returns-clause-ok
returns-clause-ok c =
    let changes = c.args.changes.now in
    adds_all c.args.number (cells_of (touches_of changes)) (cells_of (touches_left c.loop-cell.cell-iterator.changed c.loop-cell.cell-iterator.kept)) c.args.self.now c.loop-cell.self
    (ap cells_of c.in-None.ensures.steps.0) c.loop-cell.invariant
    ∙ ap (λ ts. c.args.self.now ++ ts) (numbered_touches c.args.number changes)
