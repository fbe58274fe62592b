use Rattle.robust_cert.proofs.EntryValues.{not_short, Parts, entry_taken, entry_fits, not_entry}
use Rattle.robust_cert.proofs.Shapes.{passed_on}
use Rattle.robust_cert.proofs.text.shape.entry_of.Goals as goal

pub returns-in_default-as_slice-clause-misshapen :
    goal.returns-in_default-as_slice-clause-misshapen
returns-in_default-as_slice-clause-misshapen c same entry fits =
    not_short c.args.value.now c.in-Array.items c.as_slice.result.now c.in-Array.is c.as_slice.ensures.value c.in_default-as_slice.len_below entry

pub returns-in_err-reason-clause-misshapen : goal.returns-in_err-reason-clause-misshapen
returns-in_err-reason-clause-misshapen c same =
    let p : Parts c.args.value.now c.in-Array.items c.as_slice.result.now c.kind-item.result c.x-item.result c.a-item.result c.y-item.result c.b-item.result =
    record { is = c.in-Array.is; here = c.as_slice.ensures.value; enough = c.in-len5-up.len_at_least; first = c.kind-item.is; second = c.x-item.is; third = c.a-item.is; fourth = c.y-item.is; fifth = c.b-item.is } in
    not_entry _ _ _ _ _ _ _ _ p (c.in_err-reason.ensures.misshapen (passed_on _ _ _ c.from_residual.ensures.1 same))

pub returns-clause-ok : goal.returns-clause-ok
returns-clause-ok c =
    let p : Parts c.args.value.now c.in-Array.items c.as_slice.result.now c.kind-item.result c.x-item.result c.a-item.result c.y-item.result c.b-item.result =
    record { is = c.in-Array.is; here = c.as_slice.ensures.value; enough = c.in-len5-up.len_at_least; first = c.kind-item.is; second = c.x-item.is; third = c.a-item.is; fourth = c.y-item.is; fifth = c.b-item.is } in (
      entry_fits c.in-Some.question c.in_ok-reason.reason c.in-Some.ensures.some.0 c.in_ok-reason.ensures.ok.0,
      entry_taken _ _ _ _ _ _ _ _ p c.in-Some.question c.in_ok-reason.reason c.in-Some.ensures.some.1 c.in_ok-reason.ensures.ok.1,
    )
