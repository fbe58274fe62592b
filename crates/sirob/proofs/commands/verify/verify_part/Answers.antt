use Rattle.std.proofs.Common.{Ok, Err, refl, codes}
use Rattle.std.proofs.lemmas.Result.{err_from_is_err_and}
use Rattle.prog_tree.specs.Tree.{draft_tree}
use Rattle.si_engine.proofs.RunLaws.{writes_just}
use Rattle.sirob.specs.declared.command_line.Mode.TheVariants.{Verify}
use Rattle.sirob.specs.declared.status.Status.TheVariants as status
use Rattle.sirob.specs.Stops.{IsPartDone, write_lost}
use Rattle.sirob.proofs.StopLaws.{part_stopped}
use Rattle.sirob.proofs.commands.verify.verify_part.Goals as goal

pub returns-in_err-check_certificate : goal.returns-in_err-check_certificate
returns-in_err-check_certificate g c =
    let exit = err_from_is_err_and c.from_residual.result c.from_residual.ensures.1 in
    let f = c.in_err-check_certificate.field-0.0 in
    rw (exit.1, exit.2) (part_stopped Verify (draft_tree c.args.set) c.args.part.now f _ _ c.requires c.in_err-check_certificate.ensures.err)

pub returns : goal.returns
returns g c =
    let set = draft_tree c.args.set in
    let part = c.args.part.now in
    writes_just (Err write_lost) (IsPartDone Verify set part) (codes "robust\n") (Ok status.Done) _ _ _ _
    ((c.in_ok-check_certificate.ensures.ok, refl, refl), tt) c.write_lines.ensures
