use Rattle.std.proofs.Common.{◌≡◌, Err, ap}
use Rattle.std.proofs.lemmas.Result.{err_from_is_err_and}
use Rattle.si_engine.specs.declared.input.source.InputFault.TheVariants as i
use Rattle.sirob.proofs.StopLaws.{read_stopped, done_of_source}
use Rattle.sirob.proofs.run_command.answer_source.Goals as goal

pub returns-in_err-input-clause-done : goal.returns-in_err-input-clause-done
returns-in_err-input-clause-done g c =
    let exit = err_from_is_err_and c.from_residual.result c.from_residual.ensures.1 in
    let read = c.in_err-input.ensures in
    let f = c.in_err-input.field-0.0 in
    rw (exit.1, exit.2)
    (read_stopped c.args.mode f (g.S.Source.left c.args.source.now) (g.S.Source.has_failed c.read_whole.new.source) _ _
    c.requires.working (λ e. read.long (ap Err e)) (λ e. read.fault.0 (ap Err e))
    (λ e. let told = read.fault.1 e in let is : f ≡ i.ReadFault = cc in is))

pub returns-clause-done : goal.returns-clause-done
returns-clause-done g c =
    let read = c.in_ok-input.ensures in
    done_of_source c.args.mode (g.S.Source.left c.args.source.now) (g.S.Source.has_failed c.read_whole.new.source) c.in_ok-input.input.items c.deref.result.now _ _ _ _
    c.deref.ensures.value read.whole (λ e. let told = read.fault.1 e in absurd (cc)) c.answer_input-ended.ensures
