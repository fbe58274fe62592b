use Rattle.std.proofs.Common.{◌∙◌, ap, string_bytes}
use Rattle.std.proofs.lemmas.Result.{IfOk-weaker}
use Rattle.analysis_words.specs.Refusing.{twin_advice_text}
use Rattle.analysis_words.proofs.advice.twin_advice.Goals as goal

pub returns : goal.returns
returns c =
    IfOk-weaker c.twin_advice_text.result _ _ (λ words is. (string_bytes c.in_ok-help.help, c.in_ok-help.ensures, is ∙ ap twin_advice_text c.deref.ensures))
    c.twin_advice_text.ensures
