use Rattle.std.proofs.Common.{◌∙◌, ◌++◌, codes, string_bytes}
use Rattle.std.proofs.lemmas.Result.{IfOk-weaker}
use Rattle.analysis_words.proofs.certificate_faults.sentence.Goals as goal

pub returns : goal.returns
returns c =
    let front = c.in_ok-front.ensures in
    let asked = string_bytes c.in_ok-asked.asked in
    let rule = c.broken_rule-rule.ensures in
    IfOk-weaker c.format.result _ _ (λ words is. (asked, c.in_ok-asked.ensures, is ∙ (λ i. front i ++ (asked ++ (rule i ++ codes "\n")))))
    c.format.ensures.ok
