use Rattle.std.proofs.Common.{sym, ◌∙◌, ap, length}
use Rattle.state_log.proofs.Adding.{adds_moves}
use Rattle.state_log.proofs.front.Front.with_state.Goals as goal

pub compare_exchange-found-requires : goal.compare_exchange-found-requires
compare_exchange-found-requires g c =
    let h = c.args.head.now.word_is in
    let seen = c.again-seen.ensures in
    let offer = c.plain-offer.ensures in
    let pen = c.no_pen-pen.ensures in
    let book = ap (λ s. s.book) seen ∙ (c.self.invariant.1 ∙ sym (ap (λ w. w.book) h)) in (
      ap (λ w. w.tracked) h,
      book,
      pen.0 ∙ book,
      offer.0,
      rw (ap (λ w. w.key) h, pen.1, offer.1, offer.3) (adds_moves c.again-seen.result.log _ c.self.inside.len (ap (λ s. length s.log) seen ∙ sym c.self.invariant.0)),
    )
