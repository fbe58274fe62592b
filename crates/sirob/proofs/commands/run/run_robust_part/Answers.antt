use Rattle.std.proofs.Common.{List, ℕ, Ok, Err, true, inr, refl, sym, subst}
use Rattle.std.proofs.lemmas.Result.{err_from_is_err_and}
use Rattle.prog_tree.specs.Tree.{draft_tree}
use Rattle.si_engine.proofs.RunLaws.{writes_just}
use Rattle.sirob.specs.declared.command_line.Mode.TheVariants.{Run}
use Rattle.sirob.specs.declared.commands.robust.Verified.{Verified}
use Rattle.sirob.specs.declared.status.Status.TheVariants as status
use Rattle.sirob.specs.Output.{GivesRefusal}
use Rattle.sirob.specs.Stops.{IsPartDone, IsVerified, write_lost}
use Rattle.sirob.proofs.StopLaws.{part_stopped, part_unanalysed}
use Rattle.sirob.proofs.commands.run.run_robust_part.Goals as goal

pub returns-in_err-set : goal.returns-in_err-set
returns-in_err-set g c =
    let exit = err_from_is_err_and c.from_residual.result c.from_residual.ensures.1 in
    let f = c.in_err-set.field-0.0 in
    let set = draft_tree c.args.set in
    let part = c.args.part.now in
    rw (exit.1, exit.2)
    (part_stopped (Run true) set part f _ _ c.requires.working (λ no_memory. part_unanalysed (Run true) set part f refl (c.in_err-set.ensures.err no_memory)))

pub returns-in-Refused : goal.returns-in-Refused
returns-in-Refused g c =
    let set = draft_tree c.args.set in
    let refusal = subst (λ (v : Verified). IsVerified c.args.set v) c.in-Refused.is c.in_ok-set.ensures.ok in
    let gives = subst (λ (text : List ℕ). GivesRefusal set text status.Unserializable) (sym c.as_bytes.ensures.value) refusal in
    writes_just (Err write_lost) (IsPartDone (Run true) set c.args.part.now) c.as_bytes.result.now (Ok status.Unserializable) _ _ _ _ (inr (refl, gives), tt) c.write_lines.ensures
