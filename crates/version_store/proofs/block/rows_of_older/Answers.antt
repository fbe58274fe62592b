use Rattle.std.proofs.Common.{subst, sym}
use Rattle.std.specs.Prelude.{Option, IfSome}
use Rattle.version_store.specs.declared.block.RowBlock.{RowBlock}
use Rattle.version_store.specs.Blocks.{IsTrueBlock}
use Rattle.version_store.proofs.block.rows_of_older.Goals as goal

pub returns-then-is_of-clause-rows : goal.returns-then-is_of-clause-rows
returns-then-is_of-clause-rows c = λ floor above chains region holds.
    subst (λ (o : Option RowBlock). IfSome o (IsTrueBlock floor chains region)) (sym c.in_ok-block.ensures.value) holds
    c.args.start above (c.is_of.ensures.0 c.if-is_of.true).0 (c.is_of.ensures.0 c.if-is_of.true).1
