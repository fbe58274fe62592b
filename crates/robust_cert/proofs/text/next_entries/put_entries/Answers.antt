use Rattle.std.proofs.Common.{subst, arith}
use Rattle.std.proofs.lemmas.Grind.{common_steps}
use Rattle.std.proofs.lemmas.List.Elements.{All-head, All-tail}
use Rattle.std.specs.Prelude.{All}
use Rattle.robust_cert.specs.Sharing.{HasReason}
use Rattle.robust_cert.proofs.Pieces.{entry_given, room_at}
use Rattle.robust_cert.proofs.text.next_entries.put_entries.Goals as goal

pub put_next-requires-clause-within : goal.put_next-requires-clause-within
put_next-requires-clause-within c =
    let within = subst (All (HasReason c.args.reasons.now)) c.in-Some.ensures.cases.0 c.loop-next.invariant.within in
    All-head (HasReason c.args.reasons.now) c.in-Some.next.now c.in-Some.behind.now within

pub put_next-requires-clause-room : goal.put_next-requires-clause-room
put_next-requires-clause-room c =
    let within = subst (All (HasReason c.args.reasons.now)) c.in-Some.ensures.cases.0 c.loop-next.invariant.within in
    room_at c.args.reasons.now c.args.room c.in-Some.next.now.reason _ _ c.requires.short
    (All-head (HasReason c.args.reasons.now) c.in-Some.next.now c.in-Some.behind.now within) c.loop-next.invariant.room

pub loop-next-preserved : goal.loop-next-preserved
loop-next-preserved c =
    let rs = c.args.reasons.now in
    let within = subst (All (HasReason rs)) c.in-Some.ensures.cases.0 c.loop-next.invariant.within in
    record {
      text = entry_given rs c.loop-next.left.now c.in-Some.next.now c.in-Some.behind.now c.in-Some.ensures.cases.0 _ _ _ c.loop-next.invariant.text c.put_next.ensures.text;
      within = All-tail (HasReason rs) c.in-Some.next.now c.in-Some.behind.now within;
      room = grind (arith, common_steps);
      capacity = omega (arith, c.loop-next.invariant.capacity, c.put_next.ensures.capacity);
      most = omega (arith, c.in-Some.ensures.cases.1, c.loop-next.invariant.most);
    }

pub returns-then-not-has_room-clause-text : goal.returns-then-not-has_room-clause-text
returns-then-not-has_room-clause-text c =
    entry_given c.args.reasons.now c.loop-next.left.now c.in-Some.next.now c.in-Some.behind.now c.in-Some.ensures.cases.0 _ _ _ c.loop-next.invariant.text c.put_next.ensures.text

pub returns-then-not-has_room-clause-within : goal.returns-then-not-has_room-clause-within
returns-then-not-has_room-clause-within c =
    let within = subst (All (HasReason c.args.reasons.now)) c.in-Some.ensures.cases.0 c.loop-next.invariant.within in
    All-tail (HasReason c.args.reasons.now) c.in-Some.next.now c.in-Some.behind.now within

pub returns-then-not-has_room-clause-capacity : goal.returns-then-not-has_room-clause-capacity
returns-then-not-has_room-clause-capacity c = omega (arith, c.loop-next.invariant.capacity, c.put_next.ensures.capacity)

pub returns-then-not-has_room-clause-fewer : goal.returns-then-not-has_room-clause-fewer
returns-then-not-has_room-clause-fewer c some = omega (arith, c.in-Some.ensures.cases.1, c.loop-next.invariant.most)

pub returns-clause-capacity : goal.returns-clause-capacity
returns-clause-capacity c = c.loop-next.invariant.capacity
