use Rattle.std.proofs.Common.{length, get_or, arith, rules}
use Rattle.serial_orders.proofs.NumberLists.{one-below, times-here}
use Rattle.serial_orders.proofs.order.count_up.Goals as goal

pub offset_bounds-counts-number : goal.offset_bounds-counts-number
offset_bounds-counts-number c =
    let b = one-below c.args.numbers.now (length c.args.counts.now) c.loop-number.number-index c.requires.within (omega arith) in
    search rules

pub bounds-counts-number : goal.bounds-counts-number
bounds-counts-number c =
    let b = one-below c.args.numbers.now (length c.args.counts.now) c.loop-number.number-index c.requires.within (omega arith) in
    omega arith

pub overflow_add-counts : goal.overflow_add-counts
overflow_add-counts c =
    let numbers = c.args.numbers.now in
    let k = c.loop-number.number-index in
    let b = one-below numbers (length c.args.counts.now) k c.requires.within (omega arith) in
    let here = times-here numbers k (omega arith) in
    let kept = c.loop-number.invariant (get_or numbers k 0) b in
    let room = c.requires.room (get_or numbers k 0) b in
    omega arith

pub bounds-counts-number-in-loop-number : goal.bounds-counts-number-in-loop-number
bounds-counts-number-in-loop-number c =
    let b = one-below c.args.numbers.now (length c.args.counts.now) c.loop-number.number-index c.requires.within (omega arith) in
    omega arith
