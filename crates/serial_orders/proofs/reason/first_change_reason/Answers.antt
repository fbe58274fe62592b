use Rattle.std.proofs.Common.{◌∙◌, ap, sym}
use Rattle.serial_orders.specs.Traces.{trace_at}
use Rattle.serial_orders.specs.TraceView.{TraceView}
use Rattle.serial_orders.proofs.ReasonLaws.{change_told}
use Rattle.serial_orders.proofs.reason.first_change_reason.Goals as goal

-- the first cell that puts the first before the second
pub returns-then-is_some : goal.returns-then-is_some
returns-then-is_some c =
    let traces = c.args.traces.now in
    let changed = c.as_slice-cells.ensures ∙ ap (λ (t : TraceView). t.changed) (c.behind-traces.view_is ∙ c.trace_at.ensures) in
    change_told c.args.first c.args.second (trace_at traces c.args.first) (trace_at traces c.args.second) c.as_slice-cells.result.now c.loop-cell.cell-index _ c.change_reason_at-reason.result changed c.loop-cell.invariant c.loop-cell-test.true c.change_reason_at-reason.ensures (sym c.is_some.ensures ∙ c.if-is_some.true)
