use Rattle.std.proofs.Common.{refl, ap, ◌∙◌}
use Rattle.std.proofs.lemmas.Result.{err_from_is_err_and}
use Rattle.prog_tree.specs.Tree.{draft_tree}
use Rattle.prog_text.specs.Canonical.{canonical}
use Rattle.sirob.specs.declared.command_line.Mode.TheVariants.{Check}
use Rattle.sirob.proofs.StopLaws.{stops_at_once, stops_printing, fault_up_to_text}
use Rattle.sirob.proofs.commands.check.canonical_text.Goals as goal

pub returns-in_err-set-clause-err : goal.returns-in_err-set-clause-err
returns-in_err-set-clause-err c =
    let exit = err_from_is_err_and c.from_residual.result c.from_residual.ensures.1 in
    let f = c.in_err-set.field-0.0 in
    let input = c.args.input.now in
    rw (exit.1, exit.2) (stops_at_once Check input f (λ no_memory. fault_up_to_text Check 1 input f refl (c.in_err-set.ensures.err no_memory)))

pub returns-in_err-text-clause-err : goal.returns-in_err-text-clause-err
returns-in_err-text-clause-err c =
    let exit = err_from_is_err_and c.from_residual-in_err-text.result c.from_residual-in_err-text.ensures.1 in
    rw (exit.1, exit.2) (stops_printing Check c.args.input.now)

pub returns-clause-ok : goal.returns-clause-ok
returns-clause-ok c =
    let text = c.in_ok-text.ensures.canonical ∙ ap (λ d. canonical (draft_tree d)) c.draft.ensures.same in
    (draft_tree c.in_ok-set.set, c.in_ok-set.ensures.ok, text, refl)
