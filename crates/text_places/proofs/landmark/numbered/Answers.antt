use Rattle.std.proofs.Common.{◌≡◌, ◌≤◌, ◌∙◌, ◌+◌, ◌-◌, length, sym, subst, arith}
use Rattle.text_places.proofs.Counting.{no-fewer, one-more}
use Rattle.text_places.specs.Landmarks.{landmarks_before}
use Rattle.text_places.proofs.landmark.numbered.Goals as goal

pub loop-place-preserved : goal.loop-place-preserved
loop-place-preserved c =
    let more = one-more c.args.kind c.args.text.now c.loop-place.place (sym c.is_landmark.ensures ∙ c.if-not-is_landmark.false) in
    omega (arith, more, c.loop-place.invariant, c.if-left-eq0.false)

-- none is left where the text ends, or where the start lies behind its end
pub returns-clause-none : goal.returns-clause-none
returns-clause-none c =
    let text = c.args.text.now in
    let place = c.loop-place.place in
    let end : (place - length text) + length text ≡ place = omega (arith, c.loop-place-test.false) in
    let fewer = subst (λ p. landmarks_before c.args.kind text (length text) ≤ landmarks_before c.args.kind text p) end
    (no-fewer c.args.kind text (length text) (place - length text)) in
    omega (arith, fewer, c.loop-place.invariant)
