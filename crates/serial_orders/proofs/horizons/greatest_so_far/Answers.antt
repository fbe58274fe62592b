use Rattle.serial_orders.proofs.HorizonLaws.{raised_more}
use Rattle.std.proofs.Common.{arith}
use Rattle.serial_orders.proofs.horizons.greatest_so_far.Goals as goal

pub loop-place-preserved : goal.loop-place-preserved
loop-place-preserved c =
    let most = c.max-greatest.ensures in
    let at_least = c.max.ensures in
    rw c.in_ok-push.ensures.items
    (raised_more c.args.numbers.now c.loop-place.raised.items c.loop-place.place c.loop-place.greatest c.max-greatest.result c.loop-place.invariant (omega (arith, most, at_least)))
