use Rattle.std.proofs.Common.{◌≡◌, ◌++◌, ◌-◌, ◌≤◌, OnOk, string_bytes, length, take, drop, sym, subst, arith}
use Rattle.std.proofs.lemmas.List.Elements.{All-drop, All-more, All-take}
use Rattle.std.proofs.lemmas.Grind.{common_steps}
use Rattle.robust_cert.proofs.Fitting.{all_from_first, on_ok_anyway}
use Rattle.robust_cert.proofs.Texts.{bracketed_lem}
use Rattle.robust_cert.proofs.text.part.push_list.Goals as goal

pub push-requires : goal.push-requires
push-requires g c = subst g.T.JsonPart.can_push (sym c.first-item.is) (c.requires 0 c.first-item.result c.in-len1-up.len_at_least)

pub push-requires-in-loop-part : goal.push-requires-in-loop-part
push-requires-in-loop-part g c =
    let parts = c.args.parts.now in
    let behind = All-take g.T.JsonPart.can_push (length parts - 1) (drop 1 parts) (All-drop g.T.JsonPart.can_push 1 parts c.requires) in
    subst g.T.JsonPart.can_push (sym c.part-item.is) (behind c.loop-part.part-index c.part-item.result c.loop-part-test.true)

pub returns-clause-text : goal.returns-clause-text
returns-clause-text g c = subst (λ s. OnOk c.push_str-3.result (string_bytes c.push_str-3.new.self ≡ string_bytes c.args.text.now ++ s)) (bracketed_lem g.T.JsonPart.json c.args.parts.now) (grind (arith, common_steps))

pub returns-clause-fits : goal.returns-clause-fits
returns-clause-fits g c =
    let parts = c.args.parts.now in
    let past : length (take (length parts - 1) (drop 1 parts)) ≤ c.loop-part.part-index = omega (arith, c.loop-part-test.false) in
    on_ok_anyway c.push_str-3.result
    (all_from_first g.T.JsonPart.fits parts c.first-item.result c.loop-part.part-index c.in-len1-up.len_at_least c.first-item.is past c.in_ok-push.ensures.fits c.loop-part.invariant.fits)

pub loop-part-preserved : goal.loop-part-preserved
loop-part-preserved g c =
    let others = take (length c.args.parts.now - 1) (drop 1 c.args.parts.now) in
    let fits = subst g.T.JsonPart.fits c.part-item.is c.in_ok-push-2.ensures.fits in
    record {
      text = grind (arith, common_steps);
      fits = All-more g.T.JsonPart.fits others c.loop-part.part-index c.part-item.result c.loop-part-test.true c.loop-part.invariant.fits fits;
    }
