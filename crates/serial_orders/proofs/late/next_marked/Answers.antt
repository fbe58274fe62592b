use Rattle.std.proofs.Common.{◌≡◌, ◌+◌, ◌-◌, true≢false, refl, sym, subst, ◌∙◌, arith}
use Rattle.std.proofs.lemmas.List.{get_or_read}
use Rattle.serial_orders.proofs.LateLaws.{AreNextFrom, next_start, next_more, next_whole}
use Rattle.serial_orders.proofs.late.next_marked.Goals as goal

pub loop-number-init : goal.loop-number-init
loop-number-init c = next_start c.args.marks.now c.in_ok-next.next.items (c.in_ok-next.ensures.items_if_clones_equal (λ y is. is))

pub loop-number-preserved-then-marks-number : goal.loop-number-preserved-then-marks-number
loop-number-preserved-then-marks-number c =
    let marks = c.args.marks.now in
    let next = c.loop-number.next.items in
    let number = c.loop-number.number - 1 in
    let more : c.loop-number.number ≡ number + 1 = omega (arith, c.loop-number-test.true) in
    next_more marks next number number (subst (AreNextFrom marks next) more c.loop-number.invariant)
    (λ marked. refl) (λ without. absurd (true≢false (sym c.if-marks-number.true ∙ without)))

pub loop-number-preserved : goal.loop-number-preserved
loop-number-preserved c =
    let marks = c.args.marks.now in
    let next = c.loop-number.next.items in
    let number = c.loop-number.number - 1 in
    let more : c.loop-number.number ≡ number + 1 = omega (arith, c.loop-number-test.true) in
    let long = c.loop-number.invariant.long in
    let low = c.loop-number.invariant.low in
    let behind = get_or_read next (number + 1) c.index.result.now (omega (arith, long, low, more)) c.index.ensures 0 in
    next_more marks next number c.index.result.now (subst (AreNextFrom marks next) more c.loop-number.invariant)
    (λ marked. absurd (true≢false (sym marked ∙ c.if-marks-number.false))) (λ without. behind)

pub returns : goal.returns
returns c =
    let marks = c.args.marks.now in
    let next = c.loop-number.next.items in
    next_whole marks next (subst (AreNextFrom marks next) (omega (arith, c.loop-number-test.false)) c.loop-number.invariant)
