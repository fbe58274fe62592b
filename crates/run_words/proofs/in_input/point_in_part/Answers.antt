use Rattle.std.proofs.Common.{◌∙◌, ◌++◌, ap, map}
use Rattle.std.proofs.lemmas.Result.{IfOk-weaker}
use Rattle.text_places.specs.Quotes.{pointed_out, visible}
use Rattle.run_words.proofs.in_input.point_in_part.Goals as goal

pub returns-clause-points : goal.returns-clause-points
returns-clause-points c =
    let shown = c.in_ok-shown.ensures ∙ ap (map visible) c.as_bytes.ensures.value in
    let line = c.in_ok-line.ensures in
    let sentence = c.deref.ensures ∙ c.in_ok-sentence.ensures.ok ∙ (λ i. shown i ++ line i) in
    IfOk-weaker c.point_out.result _ _ (λ words is. (c.args.sentence.now, is ∙ ap (pointed_out c.args.part.bytes.now c.args.place) sentence)) c.point_out.ensures

pub returns-clause-said : goal.returns-clause-said
returns-clause-said c =
    let shown = c.in_ok-shown.ensures ∙ ap (map visible) c.as_bytes.ensures.value in
    let line = c.in_ok-line.ensures in
    let sentence = c.deref.ensures ∙ c.in_ok-sentence.ensures.ok ∙ (λ i. shown i ++ line i) in
    IfOk-weaker c.point_out.result _ _ (λ words is. is ∙ ap (pointed_out c.args.part.bytes.now c.args.place) sentence) c.point_out.ensures
