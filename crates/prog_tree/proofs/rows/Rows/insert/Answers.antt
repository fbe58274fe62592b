use Rattle.std.proofs.Common.{arith, rules, w64, FitsSigned}
use Rattle.std.proofs.lemmas.Int.{ints, to_z-of_z}
use Rattle.prog_tree.specs.Number.{IsI64}
use Rattle.prog_tree.proofs.NumberLaws.{HasI64Rows-with_row}
use Rattle.prog_tree.proofs.rows.Rows.insert.Goals as goal

pub invariant_of-self-2 : goal.invariant_of-self-2
invariant_of-self-2 c =
    let cell = c.args.cell in
    let v = c.args.value in
    let first : IsI64 cell.first = (omega (arith, ints), omega (arith, ints)) in
    let second : IsI64 cell.second = (omega (arith, ints), omega (arith, ints)) in
    let value : IsI64 v = (omega (arith, ints), omega (arith, ints)) in
    let fits : FitsSigned w64 v = search rules in
    rw (c.in_ok-insert.ensures.entries, to_z-of_z w64 v fits) (HasI64Rows-with_row c.self.inside.rows.entries cell v (first, second) value c.self.invariant)
