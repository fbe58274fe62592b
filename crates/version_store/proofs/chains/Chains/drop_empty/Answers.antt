use Rattle.version_store.proofs.HoldLaws.{hold_removed}
use Rattle.version_store.proofs.SizeLaws.{empty_leaves, size_removed}
use Rattle.version_store.proofs.chains.Chains.drop_empty.Goals as goal

pub returns-clause-chains : goal.returns-clause-chains
returns-clause-chains c =
    let empty = rw (← c.self.view_is) at c.requires in
    rw (← c.self.view_is) (empty_leaves c.self.inside.chains.entries c.remove.new.self.entries c.args.cell.now empty c.remove.ensures.updates.0)

pub returns-clause-count : goal.returns-clause-count
returns-clause-count c =
    let empty = rw (← c.self.view_is) at c.requires in
    rw (← c.self.view_is) (size_removed c.self.inside.chains.entries c.remove.new.self.entries c.args.cell.now empty c.remove.ensures.entries)

pub returns-clause-hold : goal.returns-clause-hold
returns-clause-hold c = rw (← c.self.view_is) (hold_removed c.self.inside.chains.entries c.remove.new.self.entries c.args.cell.now c.remove.ensures.updates.0)
