use Rattle.std.proofs.Common.{Ok, Err, sym, subst}
use Rattle.si_engine.proofs.RunLaws.{writes_just}
use Rattle.sirob.specs.declared.command_line.Mode.TheVariants.{Repair}
use Rattle.sirob.specs.declared.status.Status.TheVariants as status
use Rattle.sirob.specs.Output.{Gives}
use Rattle.sirob.specs.Stops.{IsInputDone, write_lost}
use Rattle.sirob.proofs.commands.repair.repair_input.Goals as goal

pub returns : goal.returns
returns g c =
    let input = c.args.input.now in
    let mode = Repair c.args.promoting in
    let gives = subst (λ text. Gives mode input text status.Done) (sym c.deref.ensures.value) c.in_ok-text.ensures.ok in
    writes_just (Err write_lost) (IsInputDone mode input) c.deref.result.now (Ok status.Done) _ _ _ _ (gives, tt) c.write_lines.ensures
