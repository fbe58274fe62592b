use Rattle.std.proofs.Common.{◌+◌, drop, subst, arith}
use Rattle.std.specs.Prelude.{List}
use Rattle.prog_tree.specs.declared.cell.Cell.{Cell}
use Rattle.std.proofs.lemmas.List.{at_drop_more, drop_all}
use Rattle.serial_orders.proofs.LateLaws.{EntersRest, enters_none, enters_more, enters_all}
use Rattle.serial_orders.proofs.late.enter_all.Goals as goal

pub loop-cell-init : goal.loop-cell-init
loop-cell-init c = enters_none c.args.cells.now c.args.number c.args.slots.now

pub enter-requires : goal.enter-requires
enter-requires c = let long = c.loop-cell.invariant.long in omega (arith, long, c.requires)

pub loop-cell-preserved : goal.loop-cell-preserved
loop-cell-preserved c =
    let cells = c.args.cells.now in
    let k = c.loop-cell.cell-index in
    enters_more cells (drop k cells) (drop (k + 1) cells) _ c.args.number c.args.slots.now c.loop-cell.slots c.enter.new.slots
    (at_drop_more (λ (cs : List Cell). cs) cells k _ c.loop-cell-test.true) c.loop-cell.invariant c.enter.ensures

pub returns : goal.returns
returns c =
    let cells = c.args.cells.now in
    let k = c.loop-cell.cell-index in
    enters_all cells c.args.number c.args.slots.now c.loop-cell.slots
    (subst (λ (cs : List Cell). EntersRest cells cs c.args.number c.args.slots.now c.loop-cell.slots) (drop_all k cells (omega (arith, c.loop-cell-test.false))) c.loop-cell.invariant)
