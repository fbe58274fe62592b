use Rattle.std.proofs.Common.{length, ap, subst, rules, FitsSigned, w64}
use Rattle.std.proofs.lemmas.Int.{to_z-of_z}
use Rattle.si_engine.specs.Printed.{printed_row}
use Rattle.si_engine.specs.Writing.{AddsOrStays}
use Rattle.si_engine.proofs.WritingLaws.{may_be_cut, is_cut_back}
use Rattle.si_engine.proofs.output.printed.push_row_line.Goals as goal

pub or_cut-requires : goal.or_cut-requires
or_cut-requires c = may_be_cut _ _ _ _ c.write_row_line-written.ensures _ (ap length c.as_bytes-start.ensures.value)

pub returns : goal.returns
returns c =
    let value = c.args.row.now.1 in
    let fits : FitsSigned w64 value = search rules in
    subst (λ v. AddsOrStays c.args.text.now c.or_cut.new.text c.or_cut.result (printed_row c.args.tables.now c.args.row.now.0 v)) (to_z-of_z w64 value fits)
    (is_cut_back _ _ _ _ c.write_row_line-written.ensures _ (ap length c.as_bytes-start.ensures.value) c.or_cut.new.text c.or_cut.result
    c.or_cut.ensures.same c.or_cut.ensures.ok c.or_cut.ensures.err)
