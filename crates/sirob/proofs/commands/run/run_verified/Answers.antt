use Rattle.std.proofs.Common.{true}
use Rattle.prog_tree.specs.Tree.{draft_tree}
use Rattle.sirob.proofs.StopLaws.{not_broken, part_run}
use Rattle.sirob.proofs.commands.run.run_verified.Goals as goal

pub returns : goal.returns
returns g c =
    let after = c.run_robust_script_before-ran.new.source in
    let sink = c.run_robust_script_before-ran.new.sink in
    let works = not_broken after.broken after.pulls c.new.result.pulls after.counted c.run_robust_script_before-ran.ensures.reads c.new.ensures.unpulled.0 in
    rw c.as_command.ensures
    (part_run true (draft_tree c.args.set.now) c.new.result.left.now c.args.part.now after.broken (g.K.Sink.has_failed sink) (g.K.Sink.taken c.args.sink.now) (g.K.Sink.taken sink) c.run_robust_script_before-ran.result
    c.requires.robust c.new.ensures.left c.requires.short works c.run_robust_script_before-ran.ensures.run)
