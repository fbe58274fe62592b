use Rattle.std.proofs.Common.{FitsSigned, w64, rules}
use Rattle.std.proofs.lemmas.Int.{to_z-of_z}
use Rattle.si_engine.specs.RowLines.{row_line_of}
use Rattle.si_engine.proofs.input.row_line.row_line.Goals as goal

pub returns : goal.returns
unfolding row_line_of
returns c =
    let fits : FitsSigned w64 c.in_ok-table.field-0.value = search rules in
    rw (to_z-of_z w64 c.in_ok-table.field-0.value fits) (search rules)
