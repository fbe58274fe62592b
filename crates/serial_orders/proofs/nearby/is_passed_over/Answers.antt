use Rattle.std.proofs.Common.{slice_index_or, slice_index, arith}
use Rattle.std.proofs.lemmas.Bool.{not-true}
use Rattle.serial_orders.proofs.NearbyLaws.{waiting-held}
use Rattle.serial_orders.proofs.nearby.is_passed_over.Goals as goal

pub returns-then-holder-gt0-clause-passed : goal.returns-then-holder-gt0-clause-passed
returns-then-holder-gt0-clause-passed c = λ unplaced.
    let number = c.args.number in
    let holder = slice_index c.args.holders.now number in
    let some = c.if-holder-gt0.true in
    waiting-held c.args.traces.now c.args.placed.now holder number
    (c.requires.holders.holds number (λ none. omega arith))
    (not-true (slice_index_or c.args.placed.now holder _) unplaced)
