use Rattle.robust_cert.proofs.Shapes.{not_list, list_taken, one_more, passed_on}
use Rattle.robust_cert.proofs.text.part.list_of.Goals as goal

pub returns-in_err-from_value-clause-misshapen : goal.returns-in_err-from_value-clause-misshapen
returns-in_err-from_value-clause-misshapen g c same =
    not_list g.T.JsonPart.json g.T.JsonPart.fits c.args.value.now c.in-Array.items c.deref-item-items.result.now c.loop-item.item-index c.in-Array.is c.deref-item-items.ensures.value
    c.item-item.result c.loop-item-test.true c.item-item.is (c.in_err-from_value.ensures.misshapen (passed_on _ _ _ c.from_residual-in_err-from_value.ensures.1 same))

pub loop-item-preserved : goal.loop-item-preserved
loop-item-preserved g c =
    let more = one_more g.T.JsonPart.json g.T.JsonPart.fits c.deref-item-items.result.now c.loop-item.item-index c.item-item.result c.loop-item.parts.items c.push.new.self.items c.in_ok-from_value.field-0
    c.loop-item-test.true c.item-item.is c.loop-item.invariant.fits c.loop-item.invariant.same c.in_ok-from_value.ensures.ok.0 c.in_ok-from_value.ensures.ok.1 c.in_ok-push.ensures.items in
    record { fits = more.0; same = more.1 }

pub returns-clause-ok : goal.returns-clause-ok
returns-clause-ok g c =
    list_taken g.T.JsonPart.json g.T.JsonPart.fits c.args.value.now c.in-Array.items c.deref-item-items.result.now c.loop-item.item-index c.in-Array.is c.deref-item-items.ensures.value
    c.loop-item.parts.items c.from_vec.result c.loop-item-test.false c.loop-item.invariant.same c.from_vec.ensures c.loop-item.invariant.fits
