use Rattle.std.proofs.Common.{List, ℕ, ◌++◌, ◌∙◌, ap, append_assoc, codes, rules, sym, FitsSigned, to_z, of_z, w64}
use Rattle.std.specs.Fmt.{signed_decimal}
use Rattle.std.proofs.lemmas.Int.{to_z-of_z}
use Rattle.si_engine.proofs.WritingLaws.{writes_both}
use Rattle.si_engine.proofs.output.printed.write_row_in.Goals as goal

pub returns-in-Two : goal.returns-in-Two
returns-in-Two c =
    let name = c.args.name.now in
    let cell = c.args.cell.now in
    let first_fits : FitsSigned w64 cell.first = search rules in
    let second_fits : FitsSigned w64 cell.second = search rules in
    let value_fits : FitsSigned w64 c.args.value = search rules in
    let first = to_z-of_z w64 cell.first first_fits in
    let second = to_z-of_z w64 cell.second second_fits in
    let value = to_z-of_z w64 c.args.value value_fits in
    let seam = append_assoc name (codes " " ++ signed_decimal (to_z w64 (of_z w64 cell.first))) _ in
    rw c.in-Two.is
    (writes_both c.args.text.now c.push_row_head.new.text c.push_second_end.new.text _ c.push_second_end.result _ _ _
    c.in_ok-push_row_head.ensures c.push_second_end.ensures
    (sym (ap (λ (bs : List ℕ). codes "row " ++ bs) seam
    ∙ (λ i. codes "row " ++ (name ++ (codes " " ++ (signed_decimal (first i) ++ (codes " " ++ (signed_decimal (second i) ++ (codes " = " ++ (signed_decimal (value i) ++ codes "\n")))))))))))
