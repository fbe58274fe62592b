use Rattle.std.proofs.Common.{◌+◌, List, arith, subst}
use Rattle.serial_orders.specs.Reduced.{AddsPairs, sights_pairs, readers_pairs}
use Rattle.serial_orders.specs.TraceView.{TraceView}
use Rattle.serial_orders.specs.declared.trace.Sight.{Sight}
use Rattle.serial_orders.proofs.SightPairs.{reader_on}
use Rattle.serial_orders.proofs.reduced.add_readers.Goals as goal

pub loop-index-preserved : goal.loop-index-preserved
loop-index-preserved c =
    let n = c.loop-index.index in
    let writers = c.args.writers.now in
    let traces = c.args.traces.now in
    let at = c.index-traces-index in
    let now = c.loop-index.precedence in
    let next = c.add_sights.new.precedence in
    let looked = subst (λ (looks : List Sight). AddsPairs (sights_pairs (n + 1) c.trace.inside.start writers looks) now next) c.as_slice.ensures c.in_ok-add_sights.ensures in
    let adds = subst (λ (t : TraceView). AddsPairs (sights_pairs (n + 1) t.start writers t.looked) now next) c.trace.view_is looked in
    reader_on writers (readers_pairs writers 1 traces) c.args.precedence.now traces n at.result now next (omega arith) at.is c.loop-index.invariant adds
