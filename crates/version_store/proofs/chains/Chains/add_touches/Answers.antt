use Rattle.version_store.specs.Touches.{touches_left}
use Rattle.version_store.proofs.Walks.{one_more_touch, commit_added, commit_grown}
use Rattle.version_store.proofs.chains.Chains.add_touches.Goals as goal
use Rattle.version_store.proofs.TouchLaws.{touches_of}
use Rattle.prog_tree.proofs.Outcomes.{on_any_err}

pub loop-cell-preserved : goal.loop-cell-preserved
loop-cell-preserved c =
    one_more_touch c.args.number (touches_of c.args.changes.now) (touches_left c.loop-cell.cell-iterator.changed c.loop-cell.cell-iterator.kept)
    (touches_left c.next.new.self.changed c.next.new.self.kept) c.in-Some.cell c.in-Some.touch c.args.self.now c.loop-cell.self c.add.new.self
    c.in-Some.ensures.steps c.loop-cell.invariant c.in_ok-add.ensures.ok c.add.ensures.hold

pub returns-in_err-add-clause-err : goal.returns-in_err-add-clause-err
returns-in_err-add-clause-err c =
    on_any_err c.from_residual.result
    (commit_grown c.args.number c.args.changes.now (touches_left c.loop-cell.cell-iterator.changed c.loop-cell.cell-iterator.kept) c.args.self.now c.loop-cell.self c.add.new.self
    c.loop-cell.invariant c.in_err-add.ensures.err)

pub returns-clause-ok : goal.returns-clause-ok
returns-clause-ok c =
    commit_added c.args.number c.args.changes.now (touches_left c.loop-cell.cell-iterator.changed c.loop-cell.cell-iterator.kept) c.args.self.now c.loop-cell.self
    c.of-cell-items.ensures.changed_ordered c.of-cell-items.ensures.kept_ordered c.in-None.ensures.steps.0 c.loop-cell.invariant
