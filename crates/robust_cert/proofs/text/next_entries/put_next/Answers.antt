use Rattle.std.proofs.Common.{length, string_bytes, ap, ◌∙◌, arith}
use Rattle.robust_cert.specs.declared.entries.Reason.{Reason}
use Rattle.robust_cert.specs.Parts.{next_head_text}
use Rattle.robust_cert.specs.Sharing.{reason_at}
use Rattle.robust_cert.proofs.Pieces.{head_length}
use Rattle.robust_cert.proofs.Shared.{reason_any}
use Rattle.robust_cert.proofs.Texts.{next_written}
use Rattle.robust_cert.proofs.text.next_entries.put_next.Goals as goal

pub put_str-requires : goal.put_str-requires
put_str-requires c =
    let short = head_length c.renew.new.self c.args.told.question c.index-reasons-number.result c.with_reason.result.now c.with_reason.ensures c.renew.ensures.head c.renew.ensures.fits in
    omega (arith, c.requires.room, short)

pub put_access-requires : goal.put_access-requires
put_access-requires c =
    let short = head_length c.renew.new.self c.args.told.question c.index-reasons-number.result c.with_reason.result.now c.with_reason.ensures c.renew.ensures.head c.renew.ensures.fits in
    omega (arith, c.requires.room, short, c.put_str.ensures.len, c.put_str.ensures.capacity)

pub put_str-requires-2 : goal.put_str-requires-2
put_str-requires-2 c =
    let short = head_length c.renew.new.self c.args.told.question c.index-reasons-number.result c.with_reason.result.now c.with_reason.ensures c.renew.ensures.head c.renew.ensures.fits in
    omega (arith, c.requires.room, short, ap length c.tail_at.ensures.text, c.put_str.ensures.len, c.put_str.ensures.capacity, c.put_access.ensures.len, c.put_access.ensures.capacity)

pub returns-clause-len : goal.returns-clause-len
returns-clause-len c =
    let short = head_length c.renew.new.self c.args.told.question c.index-reasons-number.result c.with_reason.result.now c.with_reason.ensures c.renew.ensures.head c.renew.ensures.fits in
    omega (arith, short, ap length c.tail_at.ensures.text, c.put_str.ensures.len, c.put_access.ensures.len, c.put_str-2.ensures.len)

pub returns-clause-text : goal.returns-clause-text
returns-clause-text c =
    let rs = c.args.reasons.now in
    let n = c.args.told.reason in
    let heads = c.renew.new.self in
    let head = c.with_reason.ensures ∙ ap (λ (r : Reason). next_head_text heads r) (c.index-reasons-number.is ∙ reason_any rs n c.index-reasons-number.result c.requires.within) in
    c.put_str-2.ensures.text
    ∙ next_written heads c.args.told.question (reason_at rs n) (string_bytes c.args.text.now) _ _ _ _ c.renew.ensures.head head
    c.put_str.ensures.text c.put_access.ensures.text c.tail_at.ensures.text
