use Rattle.std.proofs.Common.{◌∷◌, ◌++◌, [], refl, sym, ap, ◌∙◌, append_assoc, arith}
use Rattle.std.specs.Vec.Iter.{into_iter_items}
use Rattle.robust_cert.specs.Json.{entry_data, EntryFits}
use Rattle.robust_cert.specs.Sharing.{entry_with}
use Rattle.robust_cert.proofs.Shapes.{not_among, one_pushed, all_pushed, passed_on}
use Rattle.robust_cert.proofs.text.shape.entries_of.Goals as goal

pub returns-in_err-question-clause-misshapen : goal.returns-in_err-question-clause-misshapen
returns-in_err-question-clause-misshapen c same =
    not_among entry_data EntryFits c.loop-item.yielded c.in-Some.item (into_iter_items c.next.new.self) c.args.items.items
    (c.loop-item.invariant.whole ∙ ap (λ rest. c.loop-item.yielded ++ rest) c.in-Some.ensures.steps.0)
    (c.in_err-question.ensures.misshapen (passed_on _ _ _ c.from_residual.ensures.1 same))

pub loop-item-preserved-in_ok-push-2 : goal.loop-item-preserved-in_ok-push-2
loop-item-preserved-in_ok-push-2 c =
    let more = one_pushed entry_data EntryFits c.loop-item.yielded c.in-Some.item c.loop-item.entries c.push.new.self (entry_with c.in_ok-question.question c.in_ok-question.reason)
    c.loop-item.invariant.fits c.loop-item.invariant.same c.in_ok-question.ensures.ok.0 c.in_ok-question.ensures.ok.1 c.in_ok-push.ensures.ok in
    record {
      fits = more.0;
      same = more.1;
      whole = c.loop-item.invariant.whole ∙ ap (λ rest. c.loop-item.yielded ++ rest) c.in-Some.ensures.steps.0 ∙ sym (append_assoc c.loop-item.yielded (c.in-Some.item ∷ []) (into_iter_items c.next.new.self));
    }

pub returns-clause-ok : goal.returns-clause-ok
returns-clause-ok c =
    all_pushed entry_data EntryFits c.args.items.items c.loop-item.yielded (into_iter_items c.loop-item.item-iterator) c.loop-item.entries c.loop-item.entries
    c.loop-item.invariant.whole (omega (arith, c.loop-item.item-iterator.rest.ok.0, c.in-None.ensures.steps.0)) c.loop-item.invariant.same refl c.loop-item.invariant.fits
