use Rattle.std.proofs.Common.{◌≡◌, ◌∙◌, false, true, sym}
use Rattle.std.proofs.lemmas.Option.{none-some}
use Rattle.std.proofs.lemmas.Result.{IfOk-weaker}
use Rattle.analysis_words.specs.Nodes.{seen}
use Rattle.analysis_words.proofs.Ranges.{looks-from_at}
use Rattle.analysis_words.proofs.looks.looks_at_range.Goals as goal

pub returns-in_default : goal.returns-in_default
returns-in_default c =
    (λ (yes : false ≡ true). absurd (cc), λ h. absurd (none-some h.0 (sym c.in_default.is ∙ c.program_of.ensures ∙ h.1)))

pub returns-in_default-access_of : goal.returns-in_default-access_of
returns-in_default-access_of c =
    (λ (yes : false ≡ true). absurd (cc), λ h. absurd (none-some h.2 (sym c.in_default-access_of.is ∙ c.access_of.ensures ∙ h.3)))

pub returns : goal.returns
returns c =
    let program = sym c.program_of.ensures ∙ c.in-Some.is in
    let look = sym c.access_of.ensures ∙ c.in-Some-access_of.is in
    IfOk-weaker c.is_range_at.result _ _ (λ yes at. looks-from_at (seen c.args.shown) c.args.question.now c.draft.result.now c.in-Some.program c.in-Some-access_of.look yes c.draft.ensures.same program look at)
    c.is_range_at.ensures
