use Rattle.std.proofs.Common.{ℕ, ◌+◌, ap, sym, subst, slice_set, ◌∙◌}
use Rattle.serial_orders.specs.TraceView.{TraceView}
use Rattle.serial_orders.proofs.HorizonLaws.{AreLastUpTo, trace_read, last_more}
use Rattle.serial_orders.proofs.horizons.last_begun.Goals as goal

pub loop-index-preserved : goal.loop-index-preserved
loop-index-preserved c =
    let traces = c.args.traces.now in
    let last = c.loop-index.last.items in
    let index = c.loop-index.index in
    let trace = trace_read traces index c.index-traces-index.result c.loop-index-test.true c.index-traces-index.is in
    let start = ap (λ (t : TraceView). t.start) (trace ∙ sym c.trace.view_is) in
    subst (λ (start : ℕ). AreLastUpTo traces (slice_set last (start + 1) (index + 1)) (index + 1)) start (last_more traces last index c.loop-index.invariant c.requires c.loop-index-test.true)
