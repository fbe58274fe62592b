use Rattle.std.proofs.Common.{◌∙◌, ◌++◌, codes, string_bytes}
use Rattle.std.proofs.lemmas.Result.{IfOk-weaker}
use Rattle.analysis_words.specs.Robust.{questions_text}
use Rattle.analysis_words.proofs.robust.sentence.Goals as goal

pub returns : goal.returns
returns g c =
    let asked = c.question_count-asked.ensures in
    let most = c.deref.ensures in
    let questions = c.in_ok-questions.ensures ∙ (λ i. questions_text c.args.certificate.now (asked i) (most i)) in
    let levels = c.in_ok-levels.ensures in
    IfOk-weaker c.format.result _ _ (λ words is. (string_bytes c.in_ok-most.most, c.in_ok-most.ensures, is ∙ (λ i. questions i ++ (codes "levels: " ++ (levels i ++ codes "\n")))))
    c.format.ensures.ok
