use Rattle.std.proofs.Common.{◌∙◌, ap, map}
use Rattle.std.proofs.lemmas.Result.{IfOk-weaker}
use Rattle.text_places.specs.Quotes.{pointed_out, visible}
use Rattle.fault_words.proofs.pointing.point_at.Goals as goal

pub returns-clause-points : goal.returns-clause-points
returns-clause-points c =
    let shown = c.in_ok-shown.ensures ∙ ap (map visible) c.as_bytes.ensures.value in
    IfOk-weaker c.point_out.result _ _ (λ words is. (c.args.sentence.now, is ∙ ap (pointed_out c.args.text.now c.args.place) (c.deref.ensures ∙ shown)))
    c.point_out.ensures

pub returns-clause-said : goal.returns-clause-said
returns-clause-said c =
    let shown = c.in_ok-shown.ensures ∙ ap (map visible) c.as_bytes.ensures.value in
    IfOk-weaker c.point_out.result _ _ (λ words is. is ∙ ap (pointed_out c.args.text.now c.args.place) (c.deref.ensures ∙ shown)) c.point_out.ensures
