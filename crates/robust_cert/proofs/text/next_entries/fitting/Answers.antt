use Rattle.std.proofs.Common.{length, ap, arith}
use Rattle.robust_cert.proofs.Slates.{no_told, room_taken}
use Rattle.robust_cert.proofs.text.next_entries.fitting.Goals as goal

pub returns-then-room-left-clause-full : goal.returns-then-room-left-clause-full
returns-then-room-left-clause-full c more =
    let taken = room_taken c.args.reasons.now c.args.told.now c.loop-count.count no_told more in
    omega (arith, taken, ap length c.tail_at.ensures.text, c.loop-count.invariant, c.if-room-left.true)

pub loop-count-preserved : goal.loop-count-preserved
loop-count-preserved c =
    let taken = room_taken c.args.reasons.now c.args.told.now c.loop-count.count no_told c.loop-count-test.true in
    omega (arith, taken, ap length c.tail_at.ensures.text, c.loop-count.invariant, c.if-room-left.false)
