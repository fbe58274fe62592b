use Rattle.std.proofs.Common.{◌+◌, ◌++◌, ℕ, List, drop, get_or, string_bytes, sym, ◌∙◌, ap, append-nil, arith}
use Rattle.std.proofs.lemmas.List.{at_drop_all, drop_more}
use Rattle.robust_cert.specs.declared.entries.Told.{Told}
use Rattle.robust_cert.specs.Pieces.{next_entries_text}
use Rattle.robust_cert.specs.Sharing.{entries_told}
use Rattle.robust_cert.proofs.Pieces.{entry_given}
use Rattle.robust_cert.proofs.Slates.{no_told, room_more}
use Rattle.robust_cert.proofs.text.next_entries.put_all.Goals as goal

pub put_next-requires-clause-room : goal.put_next-requires-clause-room
put_next-requires-clause-room c =
    let room = room_more c.args.reasons.now c.args.told.now c.loop-next.next-index no_told c.loop-next-test.true in
    omega (arith, room, c.loop-next.invariant.room)

pub loop-next-preserved : goal.loop-next-preserved
loop-next-preserved c =
    let rs = c.args.reasons.now in
    let ts = c.args.told.now in
    let i = c.loop-next.next-index in
    let room = room_more rs ts i no_told c.loop-next-test.true in
    record {
      text = entry_given rs (drop i ts) (get_or ts i no_told) (drop (i + 1) ts) (drop_more ts i no_told c.loop-next-test.true) _ _ _ c.loop-next.invariant.text c.put_next.ensures.text;
      room = omega (arith, room, c.loop-next.invariant.room, c.put_next.ensures.len, c.put_next.ensures.capacity);
      capacity = omega (arith, c.loop-next.invariant.capacity, c.put_next.ensures.capacity);
    }

pub returns-clause-text : goal.returns-clause-text
returns-clause-text c =
    let rs = c.args.reasons.now in
    sym (append-nil (string_bytes c.loop-next.text))
    ∙ ap (λ (l : List ℕ). string_bytes c.loop-next.text ++ l) (sym (at_drop_all (λ (l : List Told). next_entries_text (entries_told rs l)) c.args.told.now c.loop-next.next-index (omega arith)))
    ∙ c.loop-next.invariant.text
