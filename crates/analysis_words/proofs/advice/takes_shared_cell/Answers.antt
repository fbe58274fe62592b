use Rattle.std.proofs.Common.{◌⊎◌, ◌∙◌, inl, inr, refl, sym}
use Rattle.std.proofs.lemmas.Bool.{false≢true}
use Rattle.std.proofs.lemmas.Result.{IfOk-weaker}
use Rattle.analysis_words.proofs.advice.takes_shared_cell.Goals as goal

first_of : (A B : Type 0) → (B → ⊥) → A ⊎ B → A
first_of A B none (inl a) = a
first_of A B none (inr b) = absurd (none b)

pub returns-then-meets_body : goal.returns-then-meets_body
returns-then-meets_body c = (λ yes. inr (sym c.meets_body.ensures ∙ c.if-meets_body.true), λ h. refl)

pub returns : goal.returns
returns c =
    IfOk-weaker c.looks_at_range.result _ _ (λ yes range. (
      λ h. inl (range.0 h),
      λ h. range.1 (first_of _ _ (λ body. false≢true (sym c.if-meets_body.false ∙ c.meets_body.ensures ∙ body)) h),
    )) c.looks_at_range.ensures
