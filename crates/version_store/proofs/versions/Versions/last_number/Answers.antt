use Rattle.std.proofs.Common.{◌≡◌, ◌∙◌, ◌∷◌, ◌++◌, [], ap, sym}
use Rattle.std.specs.Prelude.{ℕ, ℤ, Option}
use Rattle.version_store.specs.Newest.{with_newest}
use Rattle.version_store.specs.Reading.{version_numbers, last_number_or}
use Rattle.version_store.proofs.NewestLaws.{last_newest}
use Rattle.version_store.proofs.versions.Versions.last_number.Goals as goal

pub returns-in-Some : goal.returns-in-Some
returns-in-Some c =
    let vs = c.self.inside.older in
    let v = c.in-Some.version in
    let whole : vs ++ v ∷ [] ≡ c.args.self.now = ap (with_newest vs) (sym c.in-Some.is) ∙ c.self.view_is in
    ap (λ (v : ℕ × Option ℤ). v.0) c.version.view_is ∙ sym (last_newest 0 vs v) ∙ ap (λ vs. last_number_or 0 (version_numbers vs)) whole
