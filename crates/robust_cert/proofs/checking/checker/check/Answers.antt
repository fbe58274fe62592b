use Rattle.std.proofs.Common.{List, subst, ◌∙◌}
use Rattle.std.specs.Prelude.{IfErr}
use Rattle.std.proofs.lemmas.Result.{err_from_is_err_and}
use Rattle.prog_check.specs.declared.path.Path.{Path}
use Rattle.robust_cert.specs.Refused.{IsFirstFault}
use Rattle.robust_cert.proofs.checking.checker.check.Goals as goal

pub returns-in_err-check_size-clause-fault : goal.returns-in_err-check_size-clause-fault
returns-in_err-check_size-clause-fault c =
    let p = err_from_is_err_and c.from_residual-in_err-check_size.result c.from_residual-in_err-check_size.ensures.1 in
    rw (p.1, p.2) (subst (λ (paths : List Path). IsFirstFault paths c.args.certificate.now c.in_err-check_size.field-0.0) (c.deref.ensures.value ∙ c.in_ok-paths.ensures.exact) c.in_err-check_size.ensures.fault)

pub returns-in_err-check_entries-clause-fault : goal.returns-in_err-check_entries-clause-fault
returns-in_err-check_entries-clause-fault c =
    let p = err_from_is_err_and c.from_residual-in_err-check_entries.result c.from_residual-in_err-check_entries.ensures.1 in
    rw (p.1, p.2) (subst (λ (paths : List Path). IsFirstFault paths c.args.certificate.now c.in_err-check_entries.field-0.0) (c.deref-2.ensures.value ∙ c.in_ok-paths.ensures.exact) c.in_err-check_entries.ensures.fault)

pub returns-clause-fault : goal.returns-clause-fault
returns-clause-fault c = subst (λ (paths : List Path). IfErr c.check_left.result (λ fault. IsFirstFault paths c.args.certificate.now fault)) (c.deref-3.ensures.value ∙ c.in_ok-paths.ensures.exact) c.check_left.ensures.fault
