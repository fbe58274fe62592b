use Rattle.std.proofs.Common.{[], ◌∙◌, refl}
use Rattle.std.proofs.KnownBytes.{Appends-nil}
use Rattle.std.proofs.lemmas.Result.{err_from_is_err_and}
use Rattle.prog_tree.specs.Tree.{draft_tree}
use Rattle.si_engine.specs.declared.input.source.InputFault.TheVariants as i
use Rattle.sirob.specs.declared.command_fault.CommandFault.TheVariants as fault
use Rattle.sirob.specs.declared.status.Status.TheVariants as status
use Rattle.sirob.specs.Refusal.{refusal_text}
use Rattle.sirob.proofs.PieceLaws.{stopped_before, text_behind}
use Rattle.sirob.proofs.commands.certify.write_refusal.Goals as goal

pub returns-in_err-text : goal.returns-in_err-text
returns-in_err-text g c =
    let exit = err_from_is_err_and c.from_residual.result c.from_residual.ensures.1 in
    rw (exit.1, exit.2) (stopped_before (refusal_text (draft_tree c.args.set.now) c.args.danger.now) status.Unserializable (fault.Input i.Memory) _ _ c.requires refl)

pub returns : goal.returns
returns g c =
    let old = g.K.Sink.taken c.args.sink.now in
    text_behind (refusal_text (draft_tree c.args.set.now) c.args.danger.now) status.Unserializable (g.K.Sink.has_failed c.write_lines.new.sink)
    old old (g.K.Sink.taken c.write_lines.new.sink) [] c.as_bytes.result.now c.write_lines.result
    (c.as_bytes.ensures.value ∙ c.in_ok-text.ensures) (Appends-nil old) c.write_lines.ensures
