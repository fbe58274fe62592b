use Rattle.std.proofs.Common.{subst}
use Rattle.std.proofs.lemmas.Result.{err_from_is_err_and}
use Rattle.prog_tree.specs.Tree.{draft_tree}
use Rattle.prog_check.specs.Paths.{paths_of}
use Rattle.si_repair.specs.declared.finding.Finding.{Finding}
use Rattle.si_repair.specs.Findings.{IsRightFinding}
use Rattle.sirob.proofs.commands.robust.assess.Goals as goal

pub returns-in_err-text-in-Refused-clause-err : goal.returns-in_err-text-in-Refused-clause-err
returns-in_err-text-in-Refused-clause-err g c =
    let exit = err_from_is_err_and c.from_residual-in_err-text-in-Refused.result c.from_residual-in_err-text-in-Refused.ensures.1 in
    rw (exit.1, exit.2) (λ no_memory. absurd (cc))

pub returns-in_ok-robust-in-Robust-clause-ok : goal.returns-in_ok-robust-in-Robust-clause-ok
returns-in_ok-robust-in-Robust-clause-ok g c =
    let right = subst (λ (f : Finding). IsRightFinding (paths_of (draft_tree c.args.set)) f) c.in-Robust.is c.in_ok-certificate.ensures.finding in
    (c.in_ok-robust-in-Robust.ensures.accepted.0, record { certificate = c.in-Robust.certificate; accepted = right.0 })
