use Rattle.std.proofs.Common.{sym, subst}
use Rattle.prog_tree.specs.declared.program.Draft.{Draft}
use Rattle.prog_tree.specs.Tree.{draft_tree}
use Rattle.prog_check.specs.Paths.{paths_of}
use Rattle.prog_paths.specs.StaticGraph.{IsDangerous}
use Rattle.si_engine.specs.Runs.{IsRobustScriptRun}
use Rattle.si_engine.proofs.robust.script.run_robust_script_before.Goals as goal

pub returns-clause-run : goal.returns-clause-run
returns-clause-run g c =
    let left = g.S.Source.left c.args.source.now in
    let failed = g.S.Source.has_failed c.run_script_before.new.source in
    let lost = g.K.Sink.has_failed c.run_script_before.new.sink in
    let old = g.K.Sink.taken c.args.sink.now in
    let new = g.K.Sink.taken c.run_script_before.new.sink in
    let safe = subst (λ (d : Draft). IsDangerous (paths_of (draft_tree d)) → ⊥) (sym c.set.ensures.same) c.set.ensures.safe in
    subst (λ (d : Draft). IsRobustScriptRun (draft_tree d) left failed lost old new c.run_script_before.result) c.set.ensures.same (c.run_script_before.ensures.safe safe)
