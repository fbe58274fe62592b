use Rattle.std.proofs.Common.{◌∙◌, ◌++◌, ap, codes}
use Rattle.std.proofs.lemmas.Result.{IfOk-weaker}
use Rattle.analysis_words.specs.Nodes.{seen}
use Rattle.analysis_words.specs.Refusing.{way_text}
use Rattle.analysis_words.proofs.advice.circle_text.Goals as goal

pub returns : goal.returns
returns c =
    let first = c.in_ok-first.ensures in
    let other = c.other_run-other.ensures in
    let middle = c.in_ok-middle.ensures in
    let way = c.in_ok-way.ensures ∙ ap (way_text (seen c.args.shown) c.args.danger.now.y) c.as_slice.ensures in
    IfOk-weaker c.format.result _ _ (λ text ok. ok ∙ (λ i. first i ++ (codes " would have to stand before " ++ (other i ++ (middle i ++ way i)))))
    c.format.ensures.ok
