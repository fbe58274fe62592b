use Rattle.std.proofs.Common.{◌∙◌, IfOk, string_bytes, subst}
use Rattle.analysis_words.specs.Nodes.{Sight}
use Rattle.analysis_words.specs.Robust.{SaysRobust}
use Rattle.analysis_words.proofs.robust.robust_words.Goals as goal

pub returns : goal.returns
returns g c =
    subst (λ (s : Sight). IfOk c.sentence.result (λ words. SaysRobust s c.args.certificate.now (string_bytes words)))
    (c.shown-shown.ensures ∙ c.in_ok-whole.ensures) c.sentence.ensures
