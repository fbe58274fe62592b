use Rattle.std.proofs.Common.{◌∙◌, ap, subst, sym}
use Rattle.prog_tree.specs.Table.{TableState, rows_in}
use Rattle.version_store.specs.Blocks.{IsBySlot}
use Rattle.version_store.proofs.PartLaws.{by_part}
use Rattle.version_store.proofs.block.Slot.rows_of_part.Goals as goal

pub returns-clause-rows : goal.returns-clause-rows
returns-clause-rows c = λ is_part.
    subst (λ (m : TableState). IsBySlot c.args.start c.args.self.now c.args.part.now m) (sym (c.in_ok-rows_within.ensures ∙ ap (rows_in c.args.part.now) c.rows.ensures))
    (by_part c.args.start c.args.self.now c.args.part.now c.in-Some.rows.now is_part c.in-Some.ensures.rows)
