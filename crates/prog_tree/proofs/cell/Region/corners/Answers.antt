use Rattle.std.proofs.Common.{rules, w64, FitsSigned}
use Rattle.std.proofs.lemmas.Int.{to_z-of_z}
use Rattle.prog_tree.proofs.CornerLaws.{corners_of, no_cell_first, no_cell_second}
use Rattle.prog_tree.proofs.cell.Region.corners.Goals as goal
use Rattle.prog_tree.proofs.cell.Region.corners.Goals.{then-first_low-first_high-via-then-first_low-first_high, then-first_low-first_high-via-else-first_low-first_high+then-second_low-second_high}

pub returns : goal.returns
returns c =
    let r = c.args.self.now in
    let first_low : FitsSigned w64 r.first_low = search rules in
    let first_high : FitsSigned w64 r.first_high = search rules in
    let second_low : FitsSigned w64 r.second_low = search rules in
    let second_high : FitsSigned w64 r.second_high = search rules in
    rw (to_z-of_z w64 r.first_low first_low, to_z-of_z w64 r.first_high first_high, to_z-of_z w64 r.second_low second_low, to_z-of_z w64 r.second_high second_high)
    (corners_of r
    (rw (to_z-of_z w64 r.first_low first_low, to_z-of_z w64 r.first_high first_high) at c.if-first_low-first_high.false)
    (rw (to_z-of_z w64 r.second_low second_low, to_z-of_z w64 r.second_high second_high) at c.if-second_low-second_high.false))

pub returns-then-first_low-first_high : goal.returns-then-first_low-first_high
returns-then-first_low-first_high c =
    let r = c.args.self.now in
    let first_low : FitsSigned w64 r.first_low = search rules in
    let first_high : FitsSigned w64 r.first_high = search rules in
    let second_low : FitsSigned w64 r.second_low = search rules in
    let second_high : FitsSigned w64 r.second_high = search rules in
    elim c.then-first_low-first_high.branch [
      | then-first_low-first_high-via-then-first_low-first_high w ↦ no_cell_first r (rw (to_z-of_z w64 r.first_low first_low, to_z-of_z w64 r.first_high first_high) at w.if-first_low-first_high.true)
      | then-first_low-first_high-via-else-first_low-first_high+then-second_low-second_high w ↦ no_cell_second r (rw (to_z-of_z w64 r.second_low second_low, to_z-of_z w64 r.second_high second_high) at w.if-second_low-second_high.true)
    ]
