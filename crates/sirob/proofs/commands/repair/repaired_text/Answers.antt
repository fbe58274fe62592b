use Rattle.std.proofs.Common.{refl, ap, ◌∙◌}
use Rattle.std.proofs.lemmas.Result.{err_from_is_err_and}
use Rattle.prog_tree.specs.Tree.{draft_tree}
use Rattle.prog_text.specs.Canonical.{canonical}
use Rattle.sirob.specs.declared.command_line.Mode.TheVariants.{Repair}
use Rattle.sirob.proofs.StopLaws.{stops_at_once, stops_printing, fault_up_to_text, unrepaired_set}
use Rattle.sirob.proofs.commands.repair.repaired_text.Goals as goal

pub returns-in_err-set-clause-err : goal.returns-in_err-set-clause-err
returns-in_err-set-clause-err c =
    let exit = err_from_is_err_and c.from_residual.result c.from_residual.ensures.1 in
    let f = c.in_err-set.field-0.0 in
    let mode = Repair c.args.promoting in
    let input = c.args.input.now in
    rw (exit.1, exit.2) (stops_at_once mode input f (λ no_memory. fault_up_to_text mode 1 input f refl (c.in_err-set.ensures.err no_memory)))

pub returns-in_err-repair-clause-err : goal.returns-in_err-repair-clause-err
returns-in_err-repair-clause-err c =
    let exit = err_from_is_err_and c.from_residual-in_err-repair.result c.from_residual-in_err-repair.ensures.1 in
    let f = c.in_err-repair.field-0.0 in
    let promoting = c.args.promoting in
    let input = c.args.input.now in
    let set = draft_tree c.in_ok-set.set in
    rw (exit.1, exit.2)
    (stops_at_once (Repair promoting) input f (λ no_memory. unrepaired_set promoting input set c.in_ok-set.ensures.ok f (c.in_err-repair.ensures.err no_memory)))

pub returns-in_err-text-clause-err : goal.returns-in_err-text-clause-err
returns-in_err-text-clause-err c =
    let exit = err_from_is_err_and c.from_residual-in_err-text.result c.from_residual-in_err-text.ensures.1 in
    rw (exit.1, exit.2) (stops_printing (Repair c.args.promoting) c.args.input.now)

pub returns-clause-ok : goal.returns-clause-ok
returns-clause-ok c =
    let text = c.in_ok-text.ensures.canonical ∙ ap (λ d. canonical (draft_tree d)) c.draft.ensures.same in (
      draft_tree c.in_ok-set.set,
      c.in_ok-set.ensures.ok,
      record {
        repaired = draft_tree c.in_ok-repair.repair.repaired;
        made = c.in_ok-repair.ensures.ok;
        sound = c.draft.ensures.faultless;
        text = text;
        status = refl;
      },
    )
