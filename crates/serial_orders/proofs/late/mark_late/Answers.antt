use Rattle.std.proofs.Common.{◌≡◌, ◌+◌, false, List, ap, sym, subst, ◌∙◌, arith}
use Rattle.std.specs.Prelude.{All}
use Rattle.prog_tree.specs.declared.cell.Cell.{Cell}
use Rattle.serial_orders.specs.Late.{EntersAll, IsSeenAt}
use Rattle.serial_orders.specs.TraceView.{TraceView}
use Rattle.serial_orders.proofs.HorizonLaws.{trace_read}
use Rattle.serial_orders.proofs.LateLaws.{late_none, late_more, late_told}
use Rattle.serial_orders.proofs.late.mark_late.Goals as goal

pub loop-index-init : goal.loop-index-init
loop-index-init c = late_none c.args.traces.now c.args.slots.now c.args.late.now c.requires.some c.requires.long

pub loop-index-preserved : goal.loop-index-preserved
loop-index-preserved c =
    let traces = c.args.traces.now in
    let slots = c.loop-index.slots in
    let next = c.enter_all.new.slots in
    let index = c.loop-index.index in
    let trace = trace_read traces index c.index-traces-index.result c.loop-index-test.true c.index-traces-index.is in
    let changed = c.as_slice.ensures ∙ ap (λ (t : TraceView). t.changed) (c.trace.view_is ∙ sym trace) in
    late_more traces slots next c.loop-index.late index c.is_late.result c.requires.sees c.loop-index.invariant c.loop-index-test.true
    (subst (λ (t : TraceView). c.is_late.result ≡ false → All (IsSeenAt slots index t.start) t.looked) (sym trace) c.is_late.ensures)
    (subst (λ (cells : List Cell). EntersAll cells (index + 1) slots next) changed c.enter_all.ensures)

pub returns : goal.returns
returns c =
    late_told c.args.traces.now c.loop-index.slots c.loop-index.late c.loop-index.index (omega (arith, c.loop-index-test.false)) c.loop-index.invariant
