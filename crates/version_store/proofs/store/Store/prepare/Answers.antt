use Rattle.version_store.proofs.store.Store.prepare.Goals as goal

pub invariant_of-self-else-is_err : goal.invariant_of-self-else-is_err
invariant_of-self-else-is_err c = (c.self.invariant.0, c.self.invariant.1, c.prepare.ensures c.self.invariant.0 c.self.inside.floor c.self.invariant.2)
