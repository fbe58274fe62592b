use Rattle.std.proofs.Common.{rules, w64, FitsSigned}
use Rattle.std.proofs.lemmas.Int.{to_z-of_z}
use Rattle.std.specs.Int.{int_max, int_min}
use Rattle.version_store.proofs.PartLaws.{max_fits, min_fits}
use Rattle.version_store.proofs.block_scan.in_common.Goals as goal

pub returns : goal.returns
returns c =
    let one = c.args.one.now in
    let other = c.args.other.now in
    let low : FitsSigned w64 one.first_low = search rules in
    let other_low : FitsSigned w64 other.first_low = search rules in
    let high : FitsSigned w64 one.first_high = search rules in
    let other_high : FitsSigned w64 other.first_high = search rules in
    let at_low = rw (to_z-of_z w64 one.first_low low, to_z-of_z w64 other.first_low other_low) at c.max-low.ensures.value in
    let at_high = rw (to_z-of_z w64 one.first_high high, to_z-of_z w64 other.first_high other_high) at c.min-high.ensures.value in
    rw (
      at_low,
      at_high,
      to_z-of_z w64 (int_max one.first_low other.first_low) (max_fits one.first_low other.first_low low other_low),
      to_z-of_z w64 (int_min one.first_high other.first_high) (min_fits one.first_high other.first_high high other_high),
    )
    at c.part_between.ensures
