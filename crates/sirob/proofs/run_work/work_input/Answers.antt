use Rattle.std.proofs.Common.{refl}
use Rattle.std.proofs.lemmas.Result.{err_from_is_err_and}
use Rattle.prog_tree.specs.Tree.{draft_tree}
use Rattle.sirob.specs.declared.command_line.Mode.TheVariants.{Work}
use Rattle.sirob.proofs.StopLaws.{input_stopped, stops_at_once, fault_up_to_text, done_of_part}
use Rattle.sirob.proofs.run_work.work_input.Goals as goal

pub returns-in_err-set : goal.returns-in_err-set
returns-in_err-set g c =
    let exit = err_from_is_err_and c.from_residual.result c.from_residual.ensures.1 in
    let mode = Work c.args.workers in
    let input = c.args.input.now in
    let f = c.in_err-set.field-0.0 in
    rw (exit.1, exit.2)
    (input_stopped mode input f _ _ c.requires.working
    (stops_at_once mode input f (λ no_memory. fault_up_to_text mode 2 input f refl (c.in_err-set.ensures.err no_memory))))

pub returns : goal.returns
returns g c =
    done_of_part (Work c.args.workers) c.args.input.now (draft_tree c.in_ok-set.field-0.set) c.in_ok-set.field-0.part.now _ _ _ _ refl c.in_ok-set.ensures.ok c.work_part.ensures
