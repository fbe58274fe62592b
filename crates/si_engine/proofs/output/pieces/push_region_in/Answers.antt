use Rattle.std.proofs.Common.{◌++◌, ◌∙◌, append_assoc, codes, rules, sym, FitsSigned, to_z, of_z, w64}
use Rattle.std.specs.Fmt.{signed_decimal}
use Rattle.std.proofs.lemmas.Int.{to_z-of_z}
use Rattle.si_engine.proofs.WritingLaws.{writes_both}
use Rattle.si_engine.proofs.output.pieces.push_region_in.Goals as goal

pub returns-in_ok-push_opening-in-Two : goal.returns-in_ok-push_opening-in-Two
returns-in_ok-push_opening-in-Two c =
    let name = c.args.name.now in
    let region = c.args.region.now in
    let first_fits : FitsSigned w64 region.first_low = search rules in
    let low_fits : FitsSigned w64 region.second_low = search rules in
    let high_fits : FitsSigned w64 region.second_high = search rules in
    let first = to_z-of_z w64 region.first_low first_fits in
    let low = to_z-of_z w64 region.second_low low_fits in
    let high = to_z-of_z w64 region.second_high high_fits in
    let seam = append_assoc name (codes "[" ++ signed_decimal (to_z w64 (of_z w64 region.first_low))) _ in
    rw c.in-Two.is
    (writes_both c.args.text.now c.push_opening.new.text c.push_range-in-Two.new.text _ c.push_range-in-Two.result _ _ _
    c.in_ok-push_opening-in-Two.ensures c.push_range-in-Two.ensures
    (sym (seam ∙ (λ i. name ++ (codes "[" ++ (signed_decimal (first i) ++ (codes ", " ++ (signed_decimal (low i) ++ (codes ".." ++ (signed_decimal (high i) ++ codes "]"))))))))))
