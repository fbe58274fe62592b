use Rattle.version_store.specs.Touches.{touches_left}
use Rattle.version_store.proofs.Walks.{one_more_cut, commit_cut}
use Rattle.version_store.proofs.chains.Chains.cut_touched.Goals as goal
use Rattle.version_store.proofs.TouchLaws.{touches_of}

pub loop-cell-preserved : goal.loop-cell-preserved
loop-cell-preserved c =
    one_more_cut c.args.number (touches_of c.args.changes.now) (touches_left c.loop-cell.cell-iterator.changed c.loop-cell.cell-iterator.kept)
    (touches_left c.next.new.self.changed c.next.new.self.kept) c.in-Some.cell c.in-Some.field-0-1 c.args.self.now c.loop-cell.self c.cut_from.new.self
    c.in-Some.ensures.steps c.loop-cell.invariant c.cut_from.ensures.chains c.cut_from.ensures.hold

pub returns-clause-chains : goal.returns-clause-chains
returns-clause-chains c =
    commit_cut c.args.number c.args.changes.now (touches_left c.loop-cell.cell-iterator.changed c.loop-cell.cell-iterator.kept) c.args.self.now c.loop-cell.self
    c.in-None.ensures.steps.0 c.loop-cell.invariant
