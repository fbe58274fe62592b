use Rattle.std.proofs.Common.{◌≤◌, ◌+◌, ◌++◌, ℕ, List, length, String, string_bytes, sym, subst, ap, ◌∙◌, arith}
use Rattle.robust_cert.specs.declared.text.slates.Slate.{Slate}
use Rattle.std.proofs.lemmas.List.Elements.{All-weaker}
use Rattle.std.specs.Prelude.{All}
use Rattle.std.specs.declared.alloc.Global.{Global}
use Rattle.robust_cert.specs.Json.{EntryFits}
use Rattle.robust_cert.specs.Pieces.{next_entries_text}
use Rattle.robust_cert.specs.Sharing.{entries_told}
use Rattle.robust_cert.specs.Slates.{IsWide, slates_text}
use Rattle.robust_cert.proofs.Pieces.{all_parts, all_fit, tails_room}
use Rattle.robust_cert.proofs.Slates.{none_left}
use Rattle.robust_cert.proofs.text.pieces.CertificateText.with_slates.Goals as goal

pub invariant_of-result : goal.invariant_of-result
invariant_of-result c =
    let room = c.in_ok-room.room in
    let short = subst (All (λ (t : String Global). length (string_bytes t) + 64 ≤ room)) c.deref.ensures.value c.in_ok-room.ensures in
    record {
      have_reasons = c.in_ok-left.ensures.within;
      have_tails = c.in_ok-tails.ensures;
      have_room = tails_room c.parts.result.1.now c.in_ok-tails.tails.items room c.in_ok-tails.ensures short;
      is_wide = λ some. omega (arith, c.piece_bytes-bytes.ensures, c.in_ok-reserve.ensures.ok);
      are_wide = λ some. All-weaker (IsWide c.piece_bytes-bytes.result) (IsWide room) (λ (s : Slate) (h : IsWide c.piece_bytes-bytes.result s). omega (arith, h, c.piece_bytes-bytes.ensures)) c.in_ok-slates.slates.all.items c.in_ok-slates.ensures.wide;
    }

pub returns-clause-text : goal.returns-clause-text
returns-clause-text c =
    let slates = c.in_ok-slates.slates in
    let given = c.in_ok-slates.ensures.given in
    let others = next_entries_text (entries_told c.parts.result.1.now c.in_ok-left.left.now) in
    ap (λ (l : List Slate). string_bytes c.reserve.new.self ++ (slates_text l ++ (others ++ string_bytes c.in_ok-closing.closing))) (none_left slates (λ lt. omega (arith, lt, given)))
    ∙ all_parts c.args.certificate.now (entries_told c.parts.result.1.now c.parts.result.0.now) _ _ _ _ _ _ c.parts.ensures.entries
    c.in_ok-piece.ensures.bytes c.in_ok-push_opening.ensures.text c.in_ok-left.ensures.text c.in_ok-reserve.ensures.bytes c.in_ok-left.ensures.others c.in_ok-closing.ensures.text

pub returns-clause-fits : goal.returns-clause-fits
returns-clause-fits c =
    let entries = all_fit c.parts.result.1.now c.parts.result.0.now c.parts.ensures.within c.in_ok-tails.ensures.fit c.questions_fit.ensures in
    (subst (All EntryFits) (sym c.parts.ensures.entries) entries, c.in_ok-closing.ensures.fits, c.in_ok-push_opening.ensures.fits)
