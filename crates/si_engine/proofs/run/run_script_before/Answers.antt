use Rattle.std.proofs.Common.{Err, List, ℕ, refl, rules, string_bytes, subst}
use Rattle.prog_tree.specs.Tree.{draft_tree}
use Rattle.si_engine.specs.Runs.{IsSafeReply}
use Rattle.si_engine.specs.Writing.{IsJust, WritesOr}
use Rattle.si_engine.specs.declared.input.part_fault.PartFault.TheVariants as fault
use Rattle.si_engine.proofs.RunsUnderWay.{runs_written}
use Rattle.si_engine.proofs.SinkLaws.{rest_written, told_lost}
use Rattle.si_engine.proofs.run.run_script_before.Goals as goal

pub returns-then-failed : goal.returns-then-failed
returns-then-failed g c =
    let set = draft_tree c.args.set.now in
    let left = g.S.Source.left c.args.source.now in
    let failed = g.S.Source.has_failed c.run_source-ended.new.source in
    let all = told_lost (IsSafeReply set left failed) (Err fault.WriteFault) _ _ _ _ c.run_source-ended.result _ (search rules) refl c.run_source-ended.ensures.run in
    let runs = runs_written set left failed _ _ _ _ all in
    record { run = runs.0; safe = runs.1; reads = c.run_source-ended.ensures.reads }

pub returns : goal.returns
returns g c =
    let set = draft_tree c.args.set.now in
    let left = g.S.Source.left c.args.source.now in
    let failed = g.S.Source.has_failed c.run_source-ended.new.source in
    let lost = Err fault.WriteFault in
    let ended = c.run_source-ended.result in
    let between = c.run_source-ended.new.sink in
    let after = c.write_or.new.sink in
    let rest =
    subst (λ (bytes : List ℕ). WritesOr lost (IsJust bytes ended) (g.K.Sink.has_failed after) (g.K.Sink.taken between) (g.K.Sink.taken after) c.write_or.result)
    c.as_bytes.ensures.value c.write_or.ensures in
    let all =
    rest_written (IsSafeReply set left failed) lost (string_bytes c.run_source-ended.new.out) (g.K.Sink.has_failed between) (g.K.Sink.has_failed after) (g.K.Sink.taken c.args.sink.now)
    (g.K.Sink.taken between) (g.K.Sink.taken after) ended c.write_or.result (search rules) c.run_source-ended.ensures.run rest in
    let runs = runs_written set left failed _ _ _ _ all in
    record { run = runs.0; safe = runs.1; reads = c.run_source-ended.ensures.reads }
