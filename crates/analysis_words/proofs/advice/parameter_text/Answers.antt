use Rattle.std.proofs.Common.{◌∙◌, ◌++◌, codes}
use Rattle.std.specs.Fmt.{decimal}
use Rattle.std.proofs.lemmas.Result.{IfOk-weaker}
use Rattle.analysis_words.proofs.advice.parameter_text.Goals as goal

pub returns : goal.returns
returns c =
    let clashing = c.in_ok-clashing.ensures in
    IfOk-weaker c.format.result _ _ (λ text ok. ok ∙ (λ i. codes "the key of `" ++ (c.args.cells.now ++ (codes "` made a parameter, and a `keep` of that cell behind line "
    ++ (decimal c.args.line ++ (codes ", so that " ++ clashing i))))))
    c.format.ensures.ok
