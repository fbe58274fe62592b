use Rattle.std.proofs.Common.{◌≡◌, ◌∙◌, ◌<◌, ◌≤◌, ◌∷◌, ◌++◌, [], ℕ, nat_lt, ap, sym, subst, arith, rules}
use Rattle.std.specs.Prelude.{ℤ, Option, List, filter}
use Rattle.std.proofs.lemmas.Bool.{le-leb, lt-leb}
use Rattle.std.proofs.lemmas.Fn.{filter_same}
use Rattle.version_store.specs.Newest.{with_newest}
use Rattle.version_store.proofs.NewestLaws.{newest_stays, newest_goes, with_last}
use Rattle.version_store.proofs.versions.Versions.cut_from.Goals as goal

pub returns-then-newest-number : goal.returns-then-newest-number
returns-then-newest-number c =
    let n = c.args.number in
    let p = λ (v : ℕ × Option ℤ). nat_lt v.0 n in
    let vs = c.self.inside.older in
    let v = c.in-Some.newest in
    let whole : vs ++ v ∷ [] ≡ c.args.self.now = ap (with_newest vs) (sym c.in-Some.is) ∙ c.self.view_is in
    let left : c.retain.new.self ≡ filter p vs = filter_same _ p _ (λ v b f k. search rules) _ _ c.retain.ensures.filtered in
    let high : n ≤ v.0 = subst (λ (v : ℕ × Option ℤ). n ≤ v.0) c.newest.view_is c.if-newest-number.true in
    with_last c.pop-self-inside.new.self c.pop-self-inside.result ∙ sym c.pop-self-inside.ensures.items
    ∙ left ∙ newest_goes p vs v (lt-leb _ _ (omega (arith, high))) ∙ ap (filter p) whole

pub returns-else-newest-number : goal.returns-else-newest-number
returns-else-newest-number c =
    let n = c.args.number in
    let p = λ (v : ℕ × Option ℤ). nat_lt v.0 n in
    let vs = c.self.inside.older in
    let v = c.in-Some.newest in
    let whole : vs ++ v ∷ [] ≡ c.args.self.now = ap (with_newest vs) (sym c.in-Some.is) ∙ c.self.view_is in
    let left : c.retain.new.self ≡ filter p vs = filter_same _ p _ (λ v b f k. search rules) _ _ c.retain.ensures.filtered in
    let low : v.0 < n = subst (λ (v : ℕ × Option ℤ). v.0 < n) c.newest.view_is c.if-newest-number.false in
    ap (with_newest c.retain.new.self) c.in-Some.is
    ∙ ap (λ (ws : List (ℕ × Option ℤ)). ws ++ v ∷ []) left
    ∙ newest_stays p vs v (le-leb _ _ low) ∙ ap (filter p) whole
