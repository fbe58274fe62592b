use Rattle.std.proofs.Common.{Err, subst}
use Rattle.prog_check.specs.Paths.{paths_of}
use Rattle.prog_tree.specs.Tree.{draft_tree}
use Rattle.si_engine.proofs.SinkLaws.{writes_as}
use Rattle.si_repair.specs.Findings.{IsRightFinding}
use Rattle.sirob.specs.declared.command_line.Mode.TheVariants.{Certify}
use Rattle.sirob.specs.declared.status.Status.TheVariants as status
use Rattle.sirob.specs.Refusal.{refusal_text}
use Rattle.sirob.specs.Stops.{IsCertificateOrStop, IsInputDone, IsTextOrStop, write_lost}
use Rattle.sirob.proofs.PieceLaws.{certificate_done, refusal_done}
use Rattle.sirob.proofs.commands.certify.certify_input.Goals as goal
use Rattle.sirob.proofs.commands.certify.certify_input.Goals.{in-Robust, in-Refused}

pub returns : goal.returns
returns g c =
    let input = c.args.input.now in
    let set = draft_tree c.in_ok-set.set in
    let told = c.in_ok-set.ensures.ok in
    elim c.match-finding.branch [
      | in-Robust w ↦
          let certificate = w.in-Robust.certificate in
          let right = subst (IsRightFinding (paths_of set)) w.in-Robust.is told.2 in
          rw (w.sink-is, w.ended-is)
          (writes_as (Err write_lost) (IsCertificateOrStop certificate) (IsInputDone Certify input) _ _ _ _
          (certificate_done input set certificate told.0 right.0 right.1) w.write_certificate-ended.ensures)
      | in-Refused w ↦
          let danger = w.in-Refused.danger in
          let least = subst (IsRightFinding (paths_of set)) w.in-Refused.is told.2 in
          rw (w.sink-is, w.ended-is)
          (writes_as (Err write_lost) (IsTextOrStop (refusal_text set danger) status.Unserializable) (IsInputDone Certify input) _ _ _ _
          (refusal_done input set danger told.0 told.1 least) w.write_refusal-ended.ensures)
    ]
