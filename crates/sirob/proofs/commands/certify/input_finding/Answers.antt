use Rattle.std.proofs.Common.{refl}
use Rattle.std.proofs.lemmas.Result.{err_from_is_err_and}
use Rattle.prog_tree.specs.Tree.{draft_tree}
use Rattle.sirob.specs.declared.command_line.Mode.TheVariants.{Certify}
use Rattle.sirob.proofs.StopLaws.{stops_at_once, fault_up_to_text, unanalysed_set}
use Rattle.sirob.proofs.commands.certify.input_finding.Goals as goal

pub returns-in_err-set-clause-err : goal.returns-in_err-set-clause-err
returns-in_err-set-clause-err g c =
    let exit = err_from_is_err_and c.from_residual.result c.from_residual.ensures.1 in
    let f = c.in_err-set.field-0.0 in
    let input = c.args.input.now in
    rw (exit.1, exit.2) (stops_at_once Certify input f (λ no_memory. fault_up_to_text Certify 1 input f refl (c.in_err-set.ensures.err no_memory)))

pub returns-in_err-finding-clause-err : goal.returns-in_err-finding-clause-err
returns-in_err-finding-clause-err g c =
    let exit = err_from_is_err_and c.from_residual-in_err-finding.result c.from_residual-in_err-finding.ensures.1 in
    let f = c.in_err-finding.field-0.0 in
    let input = c.args.input.now in
    let set = draft_tree c.in_ok-set.set in
    rw (exit.1, exit.2) (stops_at_once Certify input f (λ no_memory. unanalysed_set input set c.in_ok-set.ensures.ok f (c.in_err-finding.ensures.err no_memory)))

pub returns-clause-ok : goal.returns-clause-ok
returns-clause-ok g c = (c.in_ok-set.ensures.ok, c.in_ok-finding.ensures.ok.0, c.in_ok-finding.ensures.ok.1)
