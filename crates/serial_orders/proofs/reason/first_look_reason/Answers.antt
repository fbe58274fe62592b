use Rattle.std.proofs.Common.{◌∙◌, ◌<◌, ap, sym, arith}
use Rattle.serial_orders.specs.Traces.{trace_at}
use Rattle.serial_orders.specs.TraceView.{TraceView}
use Rattle.serial_orders.proofs.ReasonLaws.{look_told, look_passed}
use Rattle.serial_orders.proofs.reason.first_look_reason.Goals as goal

-- the first cell whose change the first missed
pub returns-then-is_some : goal.returns-then-is_some
returns-then-is_some c =
    let traces = c.args.traces.now in
    let j = c.args.second in
    let a = trace_at traces c.args.first in
    let start = ap (λ (t : TraceView). t.start) (c.before-2.view_is ∙ c.trace_at-before.ensures) in
    let early : a.start < j = omega (arith, start, c.if-before-second.false) in
    let changed = c.as_slice-cells.ensures ∙ ap (λ (t : TraceView). t.changed) (c.behind-traces.view_is ∙ c.trace_at.ensures) in
    look_told j a (trace_at traces j) c.trace_at-before.result.now c.as_slice-cells.result.now c.loop-cell.cell-index _ c.first_missed_reason-reason.result early changed c.loop-cell.invariant c.loop-cell-test.true c.trace_at-before.ensures c.first_missed_reason-reason.ensures (sym c.is_some.ensures ∙ c.if-is_some.true)

-- a cell at which it did not look
pub loop-cell-preserved : goal.loop-cell-preserved
loop-cell-preserved c =
    look_passed (trace_at c.args.traces.now c.args.first) c.trace_at-before.result.now c.as_slice-cells.result.now c.loop-cell.cell-index _ c.first_missed_reason-reason.result c.loop-cell.invariant c.loop-cell-test.true c.trace_at-before.ensures c.first_missed_reason-reason.ensures (sym c.is_some.ensures ∙ c.if-is_some.false)
