use Rattle.std.proofs.Common.{List, ℕ, Ok, Err, inl, inr, refl, string_bytes, sym, subst}
use Rattle.std.proofs.lemmas.Result.{err_from_is_err_and}
use Rattle.prog_tree.specs.declared.program.Draft.{Draft}
use Rattle.prog_tree.specs.Tree.{draft_tree}
use Rattle.si_engine.proofs.RunLaws.{writes_just}
use Rattle.sirob.specs.declared.command_line.Mode.TheVariants.{Work}
use Rattle.sirob.specs.declared.commands.robust.Verified.{Verified}
use Rattle.sirob.specs.declared.status.Status.TheVariants as status
use Rattle.sirob.specs.InputFaults.{IsFaultOfPart}
use Rattle.sirob.specs.Output.{GivesRefusal, GivesWork}
use Rattle.sirob.specs.Stops.{IsPartDone, IsVerified, write_lost}
use Rattle.sirob.proofs.StopLaws.{part_stopped, part_unanalysed}
use Rattle.sirob.proofs.commands.work.work_part.Goals as goal

pub returns-in_err-set : goal.returns-in_err-set
returns-in_err-set g c =
    let exit = err_from_is_err_and c.from_residual.result c.from_residual.ensures.1 in
    let mode = Work c.args.workers in
    let f = c.in_err-set.field-0.0 in
    let set = draft_tree c.args.set in
    let part = c.args.part.now in
    rw (exit.1, exit.2)
    (part_stopped mode set part f _ _ c.requires (λ no_memory. part_unanalysed mode set part f tt (c.in_err-set.ensures.err no_memory)))

pub returns-in-Refused : goal.returns-in-Refused
returns-in-Refused g c =
    let set = draft_tree c.args.set in
    let refusal = subst (λ (v : Verified). IsVerified c.args.set v) c.in-Refused.is c.in_ok-set.ensures.ok in
    let gives = subst (λ (text : List ℕ). GivesRefusal set text status.Unserializable) (sym c.as_bytes-in-Refused.ensures.value) refusal in
    writes_just (Err write_lost) (IsPartDone (Work c.args.workers) set c.args.part.now) c.as_bytes-in-Refused.result.now (Ok status.Unserializable) _ _ _ _ (inr gives, tt) c.write_lines-in-Refused.ensures

pub returns-in_err-text-in-Robust : goal.returns-in_err-text-in-Robust
returns-in_err-text-in-Robust g c =
    let exit = err_from_is_err_and c.from_residual-in_err-text-in-Robust.result c.from_residual-in_err-text-in-Robust.ensures.1 in
    let f = c.in_err-text-in-Robust.field-0.0 in
    let mode = Work c.args.workers in
    let part = c.args.part.now in
    let robust = subst (λ (v : Verified). IsVerified c.args.set v) c.in-Robust.is c.in_ok-set.ensures.ok in
    rw (exit.1, exit.2)
    (part_stopped mode (draft_tree c.args.set) part f _ _ c.requires
    (λ no_memory. subst (λ (set : Draft). IsFaultOfPart mode (draft_tree set) part f) robust.0 (c.in_err-text-in-Robust.ensures.err no_memory)))

pub returns-in_ok-text-in-Robust : goal.returns-in_ok-text-in-Robust
returns-in_ok-text-in-Robust g c =
    let set = draft_tree c.args.set in
    let part = c.args.part.now in
    let workers = c.args.workers in
    let robust = subst (λ (v : Verified). IsVerified c.args.set v) c.in-Robust.is c.in_ok-set.ensures.ok in
    let of_set = subst (λ (own : Draft). GivesWork workers (draft_tree own) part (string_bytes c.in_ok-text-in-Robust.field-0.text)) robust.0 c.in_ok-text-in-Robust.ensures.ok in
    let gives = subst (λ (text : List ℕ). GivesWork workers set part text) (sym c.as_bytes.ensures.value) of_set in
    writes_just (Err write_lost) (IsPartDone (Work workers) set part) c.as_bytes.result.now (Ok status.Done) _ _ _ _ (inl (robust.1, gives, refl), tt) c.write_lines.ensures
