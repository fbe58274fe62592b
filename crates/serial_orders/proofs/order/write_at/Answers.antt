use Rattle.std.proofs.Common.{length, arith, rules}
use Rattle.serial_orders.proofs.NumberLists.{one-below, write-step}
use Rattle.serial_orders.proofs.order.write_at.Goals as goal

pub offset_bounds-numbers-place : goal.offset_bounds-numbers-place
offset_bounds-numbers-place c =
    let b = one-below c.args.places.now (length c.args.numbers.now) c.loop-place.place-index c.requires (omega arith) in
    search rules

pub bounds-numbers-place : goal.bounds-numbers-place
bounds-numbers-place c =
    let b = one-below c.args.places.now (length c.args.numbers.now) c.loop-place.place-index c.requires (omega arith) in
    omega arith

pub loop-place-preserved : goal.loop-place-preserved
loop-place-preserved c =
    let b = one-below c.args.places.now (length c.args.numbers.now) c.loop-place.place-index c.requires (omega arith) in
    write-step c.args.numbers.now c.loop-place.numbers c.args.places.now c.loop-place.place-index c.args.number (omega arith) (omega arith) c.loop-place.invariant
