use Rattle.std.proofs.Common.{◌<◌, ℕ, subst}
use Rattle.std.proofs.lemmas.Result.{err_from_is_err_and}
use Rattle.robust_cert.proofs.Firsts.{stand-more, first-from_fault}
use Rattle.robust_cert.proofs.checking.entry_check.check_entries.Goals as goal

pub returns-in_err-check_entry-clause-fault : goal.returns-in_err-check_entry-clause-fault
returns-in_err-check_entry-clause-fault c =
    let p = err_from_is_err_and c.from_residual.result c.from_residual.ensures.1 in
    let inside = subst (λ (n : ℕ). c.loop-k.k < n) c.len-k-end.ensures c.loop-k-test.true in
    rw (p.1, p.2) (first-from_fault c.args.paths.now c.args.certificate.now c.loop-k.k inside c.loop-k.invariant c.in_err-check_entry.field-0.0 c.in_err-check_entry.ensures.fault)

pub loop-k-preserved : goal.loop-k-preserved
loop-k-preserved c =
    let inside = subst (λ (n : ℕ). c.loop-k.k < n) c.len-k-end.ensures c.loop-k-test.true in
    stand-more c.args.paths.now c.args.certificate.now c.loop-k.k inside c.loop-k.invariant c.in_ok-check_entry.ensures.stands
