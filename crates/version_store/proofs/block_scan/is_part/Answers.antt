use Rattle.std.proofs.Common.{◌∙◌, sym, rules, w64, FitsSigned}
use Rattle.std.proofs.lemmas.Int.{to_z-of_z}
use Rattle.version_store.proofs.block_scan.is_part.Goals as goal

pub returns-then-are_ends : goal.returns-then-are_ends
returns-then-are_ends c =
    let first = c.args.inner.now.first_low in
    let last = c.args.inner.now.first_high in
    let low : FitsSigned w64 first = search rules in
    let high : FitsSigned w64 last = search rules in
    let ends = rw (to_z-of_z w64 first low, to_z-of_z w64 last high) at c.are_ends.ensures in
    let part = rw (to_z-of_z w64 first low, to_z-of_z w64 last high) at c.part_between.ensures in
    (λ same. (c.is_same.ensures.0 same ∙ part, ends.0 c.if-are_ends.true), λ is. c.is_same.ensures.1 (is.0 ∙ sym part))
