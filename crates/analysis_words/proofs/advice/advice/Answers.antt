use Rattle.std.proofs.Common.{◌∙◌, string_bytes}
use Rattle.std.proofs.lemmas.Result.{IfOk-weaker}
use Rattle.analysis_words.specs.Refusing.{advice_text}
use Rattle.analysis_words.proofs.advice.advice.Goals as goal

pub returns : goal.returns
returns c =
    let circle = c.deref.ensures ∙ c.in_ok-circle.ensures in
    let first = c.deref-2.ensures in
    let second = c.deref-3.ensures in
    IfOk-weaker c.advice_text.result _ _ (λ words is. (
      string_bytes c.in_ok-first.first,
      string_bytes c.in_ok-second.second,
      c.in_ok-first.ensures,
      c.in_ok-second.ensures,
      is ∙ (λ i. advice_text (circle i) (first i) (second i)),
    )) c.advice_text.ensures
