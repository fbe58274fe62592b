use Rattle.version_store.proofs.VacuumLaws.{vacuums_more}
use Rattle.version_store.proofs.chains.Chains.vacuum.Goals as goal

pub loop-cell-preserved : goal.loop-cell-preserved
loop-cell-preserved c =
    vacuums_more c.args.floor c.args.self.now c.loop-cell.self c.trim.new.self c.args.pending.now c.loop-cell.pending c.next_within.new.self c.in-Some.cell c.loop-cell.count
    c.trim.result c.saturating_add-count.result c.in-Some.ensures.some c.trim.ensures.chains c.trim.ensures.hold c.trim.ensures.count c.saturating_add-count.ensures c.loop-cell.invariant
