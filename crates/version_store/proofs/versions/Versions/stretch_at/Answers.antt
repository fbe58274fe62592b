use Rattle.std.proofs.Common.{◌≡◌, ◌∙◌, ◌≤◌, ◌<◌, ◌∷◌, ◌++◌, [], ap, subst, sym, arith}
use Rattle.std.specs.Prelude.{ℕ, ℤ, Option, None, List}
use Rattle.std.proofs.lemmas.Bool.{lt-leb}
use Rattle.version_store.specs.Blocks.{HoldsIn}
use Rattle.version_store.specs.Newest.{with_newest}
use Rattle.version_store.specs.Reading.{RisesFrom, value_after}
use Rattle.version_store.proofs.NewestLaws.{rises_older, value_newest, value_older}
use Rattle.version_store.proofs.versions.Versions.stretch_at.Goals as goal

pub returns-then-newest-number-clause-holds : goal.returns-then-newest-number-clause-holds
returns-then-newest-number-clause-holds c = λ rises n inside.
    let vs = c.self.inside.older in
    let v = c.in-Some.newest in
    let whole : vs ++ v ∷ [] ≡ c.args.self.now = ap (with_newest vs) (sym c.in-Some.is) ∙ c.self.view_is in
    let high : n < v.0 = subst (λ (v : ℕ × Option ℤ). n < v.0) c.newest.view_is (c.stretch_among.ensures.end n inside.1) in
    let older = rises_older 0 vs (v ∷ []) (subst (RisesFrom 0) (sym whole) rises) in
    let held = subst (λ (ws : List (ℕ × Option ℤ)). RisesFrom 0 ws → HoldsIn c.stretch_among.result ws) c.as_slice.ensures c.stretch_among.ensures.holds older n inside in
    sym (ap (value_after n None) whole) ∙ sym (value_older n vs v (lt-leb v.0 n high)) ∙ held

pub returns-clause-holds : goal.returns-clause-holds
returns-clause-holds c = λ rises n inside.
    let vs = c.self.inside.older in
    let v = c.in-Some.newest in
    let whole : vs ++ v ∷ [] ≡ c.args.self.now = ap (with_newest vs) (sym c.in-Some.is) ∙ c.self.view_is in
    let low : v.0 ≤ n = subst (λ (v : ℕ × Option ℤ). v.0 ≤ n) c.newest.view_is inside.0 in
    sym (ap (λ (v : ℕ × Option ℤ). v.1) c.newest.view_is ∙ value_newest n vs v low ∙ ap (value_after n None) whole)

pub returns-then-newest-number-clause-start : goal.returns-then-newest-number-clause-start
returns-then-newest-number-clause-start c = λ rises below.
    let vs = c.self.inside.older in
    let v = c.in-Some.newest in
    let whole : vs ++ v ∷ [] ≡ c.args.self.now = ap (with_newest vs) (sym c.in-Some.is) ∙ c.self.view_is in
    let older = rises_older 0 vs (v ∷ []) (subst (RisesFrom 0) (sym whole) rises) in
    c.stretch_among.ensures.start (subst (RisesFrom 0) (sym c.as_slice.ensures) older) (omega (arith, c.if-newest-number.true))
