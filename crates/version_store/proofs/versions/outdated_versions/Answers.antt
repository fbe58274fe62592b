use Rattle.std.proofs.Common.{◌∙◌, ◌+◌, ◌<◌, ◌≤◌, Bool, if◌then◌else◌, ap, subst, arith, sym}
use Rattle.std.specs.Prelude.{ℕ, ℤ, Option, is_some}
use Rattle.version_store.proofs.TrimLaws.{Outdates, outdates_first, outdates_more, outdates_above, outdates_all}
use Rattle.version_store.proofs.versions.outdated_versions.Goals as goal
use Rattle.version_store.proofs.versions.outdated_versions.Goals.{then-is_some, else-is_some}

pub loop-place-init : goal.loop-place-init
loop-place-init c = outdates_first c.args.floor c.args.versions.now

pub returns-then-version-floor-clause-bound : goal.returns-then-version-floor-clause-bound
returns-then-version-floor-clause-bound c = omega (arith, c.loop-place.invariant.bound, c.loop-place-test.true)

pub returns-then-version-floor-clause-kept : goal.returns-then-version-floor-clause-kept
returns-then-version-floor-clause-kept c =
    let above = subst (λ (v : ℕ × Option ℤ). c.args.floor < v.0) c.version.view_is c.if-version-floor.true in
    outdates_above c.args.floor c.args.versions.now c.loop-place.outdated c.loop-place.place c.index-versions-place.result c.loop-place-test.true c.index-versions-place.is above c.loop-place.invariant

pub loop-place-preserved : goal.loop-place-preserved
loop-place-preserved c =
    let f = c.args.floor in
    let vs = c.args.versions.now in
    let place = c.loop-place.place in
    let v = c.index-versions-place.result in
    let low = subst (λ (v : ℕ × Option ℤ). v.0 ≤ f) c.version.view_is c.if-version-floor.false in
    let more = outdates_more f vs c.loop-place.outdated place v c.loop-place-test.true c.index-versions-place.is low c.loop-place.invariant in
    let shows = c.is_some.ensures ∙ ap (λ (v : ℕ × Option ℤ). is_some v.1) c.version.view_is in
    let chosen = λ (b : Bool). if b then place else place + 1 in
    elim c.if-is_some.branch [
      | then-is_some w ↦ subst (λ n. Outdates f vs n (place + 1)) (ap chosen (sym shows ∙ w.if-is_some.true) ∙ sym w.outdated-is) more
      | else-is_some w ↦ subst (λ n. Outdates f vs n (place + 1)) (ap chosen (sym shows ∙ w.if-is_some.false) ∙ sym w.outdated-is) more
    ]

pub returns-clause-bound : goal.returns-clause-bound
returns-clause-bound c = omega (arith, c.loop-place.invariant.bound, c.loop-place.auto.place-end)

pub returns-clause-kept : goal.returns-clause-kept
returns-clause-kept c = outdates_all c.args.floor c.args.versions.now c.loop-place.outdated c.loop-place.place c.loop-place-test.false c.loop-place.invariant
