use Rattle.std.proofs.Common.{◌≡◌, ℕ, max, slice_index, sym, subst, arith, rules}
use Rattle.serial_orders.specs.Nearby.{IsTestedBelow}
use Rattle.serial_orders.proofs.NearbyLaws.{found-first, held-next, holders-set, over-free, tested-max, waiting-held}
use Rattle.serial_orders.proofs.nearby.first_free.Goals as goal

pub returns-in-Over-clause-first : goal.returns-in-Over-clause-first
returns-in-Over-clause-first c =
    let traces = c.args.traces.now in
    let placed = c.args.placed.now in
    let number = c.loop-number.number in
    let first = c.requires.from.first in
    let unplaced = c.is_passed_over.ensures.unplaced c.if-is_passed_over.false in
    found-first traces placed c.args.from number c.requires.from (omega arith, omega arith) (omega arith)
    (over-free traces placed number unplaced c.in-Over.ensures) c.loop-number.invariant.held

pub waiting_of-requires-clause-tested : goal.waiting_of-requires-clause-tested
waiting_of-requires-clause-tested c =
    let traces = c.args.traces.now in
    let placed = c.args.placed.now in
    let holders = c.loop-number.holders in
    let number = c.loop-number.number in
    let greater : c.max-tested.result ≡ max c.args.from (slice_index holders number) = search rules in
    subst (λ (bound : ℕ). IsTestedBelow traces placed number bound) (sym greater)
    (tested-max traces placed holders c.args.from number c.requires.from c.loop-number.invariant.holders)

pub loop-number-preserved : goal.loop-number-preserved
loop-number-preserved c =
    let traces = c.args.traces.now in
    let placed = c.args.placed.now in
    let number = c.loop-number.number in
    let long = c.loop-number.invariant.holders.long in
    let holder = c.in-For.ensures in
    record {
      holders = holders-set traces placed c.loop-number.holders number c.in-For.holder (omega arith) c.loop-number.invariant.holders holder.0 holder.2;
      held = held-next traces placed c.args.from number c.loop-number.invariant.held
          (waiting-held traces placed c.in-For.holder number holder.0 holder.1);
    }
