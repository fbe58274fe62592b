use Rattle.std.proofs.Common.{◌≡◌, Err, string_bytes}
use Rattle.std.proofs.lemmas.Result.{err_from_is_err_and}
use Rattle.prog_tree.specs.Tree.{draft_tree}
use Rattle.si_engine.specs.Runs.{IsSafeReply}
use Rattle.si_engine.specs.declared.input.part_fault.PartFault.TheVariants as fault
use Rattle.si_engine.specs.declared.input.source.InputFault.TheVariants as input_fault
use Rattle.si_engine.proofs.RunLaws.{run_refused, run_replies, run_unread}
use Rattle.si_engine.proofs.RunsUnderWay.{replies_so_far}
use Rattle.si_engine.proofs.SinkLaws.{not_begun}
use Rattle.si_engine.proofs.run.run_source.Goals as goal

pub returns-in_err-script-clause-run : goal.returns-in_err-script-clause-run
returns-in_err-script-clause-run g c =
    let exit = err_from_is_err_and c.from_residual.result c.from_residual.ensures.1 in
    let set = draft_tree c.args.set.now in
    let left = g.S.Source.left c.args.source.now in
    let failed = g.S.Source.has_failed c.read_script.new.source in
    let f = c.in_err-script.field-0.0 in
    let text = string_bytes c.args.out.now in
    rw (exit.1, exit.2)
    (not_begun (IsSafeReply set left failed) text _ _ (Err f) (
      run_replies set left failed text (Err f)
          (λ works. run_refused set left f text c.requires (c.in_err-script.ensures.fault works))
          (λ fails.
          let is : f ≡ fault.Input input_fault.ReadFault = let told = c.in_err-script.ensures.unread.0 fails in cc in
          run_unread f text c.requires is),
      tt,
    ))

pub returns-clause-run : goal.returns-clause-run
returns-clause-run g c =
    replies_so_far (draft_tree c.args.set.now) (g.S.Source.left c.args.source.now) c.in_ok-script.script (g.S.Source.has_failed c.read_script.new.source)
    (λ fails. let told = c.in_ok-script.ensures.unread.0 fails in cc) c.in_ok-script.ensures.script (string_bytes c.args.out.now) c.requires
    (string_bytes c.make_lines.new.out) _ _ _ c.make_lines.result c.make_lines.ensures
