use Rattle.version_store.proofs.block.Slot.rows_at.Goals as goal

pub returns-then-is_of-clause-rows : goal.returns-then-is_of-clause-rows
returns-then-is_of-clause-rows c = λ floor above chains holds. holds.0 c.args.start above (c.is_of.ensures.0 c.if-is_of.true).0 (c.is_of.ensures.0 c.if-is_of.true).1
