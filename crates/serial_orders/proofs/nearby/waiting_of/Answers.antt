use Rattle.std.proofs.Common.{◌+◌, ◌∙◌, sym, arith}
use Rattle.std.proofs.lemmas.Bool.{false≢true, true_from_ne_false}
use Rattle.serial_orders.specs.Nearby.{is_marked}
use Rattle.serial_orders.proofs.LateLaws.{first_after, tested_on}
use Rattle.serial_orders.proofs.NearbyLaws.{over-tested, tested-next}
use Rattle.serial_orders.proofs.nearby.waiting_of.Goals as goal

pub loop-other-init : goal.loop-other-init
loop-other-init c =
    let traces = c.args.traces.now in
    let placed = c.args.placed.now in
    let next = c.args.next_late.now in
    let number = c.args.number in
    let on = tested_on traces placed next number c.args.from c.requires.late c.requires.number.0 c.requires.from c.requires.tested in
    rw c.first_tested-other.ensures record { some = on.0; tested = on.1 }

pub loop-other-smaller : goal.loop-other-smaller
loop-other-smaller c =
    let traces = c.args.traces.now in
    let next = c.args.next_late.now in
    let number = c.args.number in
    let other = c.loop-other.other in
    let within = c.requires.horizons.within number in
    let test = c.loop-other-test.true in
    let after = first_after traces next number (other + 1) c.requires.late (omega (arith, within, test)) in
    rw c.first_tested-other-in-loop-other.ensures (omega (arith, test, after))

pub loop-other-preserved : goal.loop-other-preserved
loop-other-preserved c =
    let traces = c.args.traces.now in
    let placed = c.args.placed.now in
    let next = c.args.next_late.now in
    let number = c.args.number in
    let other = c.loop-other.other in
    let within = c.requires.horizons.within number in
    let tested = tested-next traces placed number other c.loop-other.invariant.tested (λ holder.
    true_from_ne_false (is_marked placed other) (λ unmarked. false≢true (sym c.if-holds.false ∙ c.in-Some.ensures.1 (unmarked, holder)))) in
    let on = tested_on traces placed next number (other + 1) c.requires.late c.requires.number.0 (omega arith, omega (arith, within, c.loop-other-test.true)) tested in
    rw c.first_tested-other-in-loop-other.ensures record { some = on.0; tested = on.1 }

pub returns : goal.returns
returns c =
    over-tested c.args.traces.now c.args.horizons.now c.args.placed.now c.args.number c.loop-other.other
    c.requires.horizons c.requires.number (omega (arith, c.loop-other-test.false)) c.loop-other.invariant.tested
