use Rattle.std.proofs.Common.{◌∙◌, ◌++◌, ap, codes}
use Rattle.std.proofs.lemmas.Result.{IfOk-weaker}
use Rattle.analysis_words.specs.Helping.{outside_text}
use Rattle.analysis_words.proofs.advice.shared_text.Goals as goal

pub returns : goal.returns
returns c =
    let keepers = c.in_ok-keepers.ensures in
    let outside = c.outside_text-outside.ensures ∙ ap outside_text c.meets_body.ensures in
    IfOk-weaker c.format.result _ _ (λ text ok. ok ∙ (λ i. codes "one cell that stands for `" ++ (c.args.cells.now ++ (codes "`, which " ++ (keepers i ++ outside i)))))
    c.format.ensures.ok
