use Rattle.std.proofs.Common.{◌+◌, drop}
use Rattle.std.specs.Prelude.{List}
use Rattle.prog_tree.specs.declared.cell.Cell.{Cell}
use Rattle.std.proofs.lemmas.List.{at_drop_more}
use Rattle.serial_orders.proofs.WriterLaws.{one_more_number}
use Rattle.serial_orders.proofs.writers.Writers.add_all.Goals as goal

pub loop-cell-preserved : goal.loop-cell-preserved
loop-cell-preserved c =
    let cells = c.args.cells.now in
    let k = c.loop-cell.cell-index in
    one_more_number c.args.number cells (drop k cells) (drop (k + 1) cells) _ c.args.self.now c.loop-cell.self c.add.new.self (at_drop_more (λ (cs : List Cell). cs) cells k _ c.loop-cell-test.true)
    c.loop-cell.invariant c.in_ok-add.ensures
