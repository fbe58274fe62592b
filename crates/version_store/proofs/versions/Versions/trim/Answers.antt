use Rattle.std.proofs.Common.{◌≡◌, ◌∙◌, ◌<◌, ◌≤◌, ◌∷◌, ◌++◌, [], ℕ, leb, true, false, ap, sym, subst}
use Rattle.std.specs.Prelude.{ℤ, Option, List, is_some}
use Rattle.std.specs.List.{list_all}
use Rattle.version_store.specs.Newest.{with_newest}
use Rattle.version_store.specs.Trimming.{versions_kept}
use Rattle.version_store.proofs.NewestLaws.{kept_behind, kept_newest, shown_value, shown_removal}
use Rattle.version_store.proofs.TrimLaws.{kept_push}
use Rattle.version_store.proofs.versions.Versions.trim.Goals as goal
use Rattle.version_store.proofs.versions.Versions.trim.Goals.{then-newest-floor-via-then-newest-floor, then-newest-floor-via-else-newest-floor+then-not-are_within}

pub returns-then-newest-floor-clause-versions : goal.returns-then-newest-floor-clause-versions
returns-then-newest-floor-clause-versions c =
    let f = c.args.floor in
    let vs = c.self.inside.older in
    let v = c.in-Some.newest in
    let whole : vs ++ v ∷ [] ≡ c.args.self.now = ap (with_newest vs) (sym c.in-Some.is) ∙ c.self.view_is in
    let stays : versions_kept f [] vs ++ v ∷ [] ≡ versions_kept f [] (vs ++ v ∷ []) = elim c.then-newest-floor.branch [
      | then-newest-floor-via-then-newest-floor w ↦
          let high : f < v.0 = subst (λ (v : ℕ × Option ℤ). f < v.0) c.newest.view_is w.if-newest-floor.true in
          sym (kept_push f v.0 v.1 [] vs high)
      | then-newest-floor-via-else-newest-floor+then-not-are_within w ↦
          let above : list_all (λ (v : ℕ × Option ℤ). leb v.0 f) vs ≡ false =
          subst (λ (ws : List (ℕ × Option ℤ)). list_all (λ (v : ℕ × Option ℤ). leb v.0 f) ws ≡ false) w.as_slice.ensures (sym w.are_within.ensures ∙ w.if-not-are_within.true) in
          kept_behind f [] vs v above
    ] in
    ap (with_newest c.trim_list.new.versions) c.in-Some.is
    ∙ ap (λ (ws : List (ℕ × Option ℤ)). ws ++ v ∷ []) c.trim_list.ensures.versions
    ∙ stays ∙ ap (versions_kept f []) whole

pub returns-then-is_some-clause-versions : goal.returns-then-is_some-clause-versions
returns-then-is_some-clause-versions c =
    let f = c.args.floor in
    let vs = c.self.inside.older in
    let v = c.in-Some.newest in
    let whole : vs ++ v ∷ [] ≡ c.args.self.now = ap (with_newest vs) (sym c.in-Some.is) ∙ c.self.view_is in
    let low : v.0 ≤ f = subst (λ (v : ℕ × Option ℤ). v.0 ≤ f) c.newest.view_is c.if-newest-floor.false in
    let within : list_all (λ (v : ℕ × Option ℤ). leb v.0 f) vs ≡ true =
    subst (λ (ws : List (ℕ × Option ℤ)). list_all (λ (v : ℕ × Option ℤ). leb v.0 f) ws ≡ true) c.as_slice.ensures (sym c.are_within.ensures ∙ c.if-not-are_within.false) in
    let some : is_some v.1 ≡ true = subst (λ (v : ℕ × Option ℤ). is_some v.1 ≡ true) c.newest.view_is (sym c.is_some.ensures ∙ c.if-is_some.true) in
    ap (with_newest c.clear.new.self) c.in-Some.is
    ∙ ap (λ (ws : List (ℕ × Option ℤ)). ws ++ v ∷ []) c.clear.ensures
    ∙ shown_value v.0 v.1 some ∙ kept_newest f [] vs v low within ∙ ap (versions_kept f []) whole

pub returns-clause-versions : goal.returns-clause-versions
returns-clause-versions c =
    let f = c.args.floor in
    let vs = c.self.inside.older in
    let v = c.in-Some.newest in
    let whole : vs ++ v ∷ [] ≡ c.args.self.now = ap (with_newest vs) (sym c.in-Some.is) ∙ c.self.view_is in
    let low : v.0 ≤ f = subst (λ (v : ℕ × Option ℤ). v.0 ≤ f) c.newest.view_is c.if-newest-floor.false in
    let within : list_all (λ (v : ℕ × Option ℤ). leb v.0 f) vs ≡ true =
    subst (λ (ws : List (ℕ × Option ℤ)). list_all (λ (v : ℕ × Option ℤ). leb v.0 f) ws ≡ true) c.as_slice.ensures (sym c.are_within.ensures ∙ c.if-not-are_within.false) in
    let none : is_some v.1 ≡ false = subst (λ (v : ℕ × Option ℤ). is_some v.1 ≡ false) c.newest.view_is (sym c.is_some.ensures ∙ c.if-is_some.false) in
    c.clear.ensures
    ∙ shown_removal v.0 v.1 none ∙ kept_newest f [] vs v low within ∙ ap (versions_kept f []) whole
