use Rattle.std.proofs.Common.{◌<◌, length, refl, ap, arith}
use Rattle.analysis_words.specs.Counts.{one_if}
use Rattle.analysis_words.proofs.Counts.{apart-next, counted-next}
use Rattle.analysis_words.proofs.entry_counts.count.Goals.{then-is_apart, else-is_apart}
use Rattle.analysis_words.proofs.entry_counts.count.Goals as goal

pub loop-next-preserved : goal.loop-next-preserved
loop-next-preserved c =
    let told = c.args.told.now in
    let rs = c.args.reasons.now in
    let k = c.loop-next.next-index in
    let before = c.loop-next.invariant in
    let lt : k < length told = omega (arith, c.loop-next-test.true) in
    let reason = c.reason_of-reason.ensures in
    let more = apart-next rs told k _ _ _ lt refl reason in
    let is = ap one_if c.is_apart.ensures in
    record {
      count = elim c.if-is_apart.branch [
        | then-is_apart w ↦ omega (arith, w.apart-is, more, is, ap one_if w.if-is_apart.true, before.count)
        | else-is_apart w ↦ omega (arith, w.apart-is, more, is, ap one_if w.if-is_apart.false, before.count)
      ];
      within = elim c.if-is_apart.branch [
        | then-is_apart w ↦ omega (arith, w.apart-is, before.within)
        | else-is_apart w ↦ omega (arith, w.apart-is, before.within)
      ];
      covers = counted-next rs told k _ _ _ lt refl reason c.args.nodes.now _ _ before.covers c.in_ok-note_cover.ensures;
    }
