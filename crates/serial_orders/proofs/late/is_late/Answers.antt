use Rattle.std.proofs.Common.{ap, subst}
use Rattle.std.specs.Prelude.{ℕ}
use Rattle.serial_orders.specs.Late.{IsSeenAt}
use Rattle.serial_orders.specs.TraceView.{TraceView}
use Rattle.serial_orders.proofs.LateLaws.{seen_more}
use Rattle.serial_orders.proofs.late.is_late.Goals as goal

pub loop-sight-preserved : goal.loop-sight-preserved
loop-sight-preserved c = λ rest.
    let slots = c.args.slots.now in
    let sight = c.sight-item.result in
    let start = ap (λ (t : TraceView). t.start) c.trace.view_is in
    let seen = subst (λ (n : ℕ). IsSeenAt slots c.args.count n sight) start (c.may_miss.ensures c.if-may_miss.false) in
    c.loop-sight.invariant
    (seen_more slots c.args.count c.args.trace.now.start c.loop-sight.sight-index c.as_slice-sights.result.now sight c.loop-sight-test.true c.sight-item.is seen rest)
