use Rattle.std.proofs.Common.{◌≡◌, ◌∙◌, false, true, subst, sym}
use Rattle.std.proofs.lemmas.Option.{none-some, same_Some}
use Rattle.repair_laws.specs.Refusals.{HasUnknownKey}
use Rattle.analysis_words.proofs.looks.is_under_unknown_key.Goals as goal

pub returns-in_default : goal.returns-in_default
returns-in_default c =
    (λ (yes : false ≡ true). absurd (cc), λ h. absurd (none-some h.0 (sym c.in_default.is ∙ c.access_of.ensures ∙ h.1)))

pub returns : goal.returns
returns c =
    let look = c.in-Some.look in
    let is = sym c.access_of.ensures ∙ c.in-Some.is in (
      λ yes. (look, is, c.has_unknown_key.ensures.0 yes),
      λ h. c.has_unknown_key.ensures.1 (subst HasUnknownKey (same_Some h.0 look (sym h.1 ∙ is)) h.2),
    )
