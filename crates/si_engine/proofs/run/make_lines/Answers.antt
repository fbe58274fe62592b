use Rattle.std.proofs.Common.{Result, Ok, Err, IfOk, OnErr, ◌∙◌, ap, refl, subst, string_bytes}
use Rattle.std.proofs.lemmas.Result.{err_from_is_err_and}
use Rattle.std.specs.Result.{result_from_control_flow}
use Rattle.std.specs.declared.alloc.AllocError.{AllocError}
use Rattle.prog_tree.specs.Tree.{draft_tree}
use Rattle.history_book.specs.View.{history_of}
use Rattle.si_engine.specs.Robustness.{IsHistory}
use Rattle.si_engine.specs.Runs.{end_lines, run_lines, AddsEnd, AddsFirst, MakesRun}
use Rattle.si_engine.specs.declared.input.part_fault.PartFault.TheVariants as fault
use Rattle.si_engine.specs.declared.input.source.InputFault.TheVariants as input_fault
use Rattle.si_engine.specs.declared.output.finding.Serializability.{Serializability}
use Rattle.si_engine.proofs.OutputLaws.{adds_none}
use Rattle.si_engine.proofs.SinkLaws.{not_begun}
use Rattle.si_engine.proofs.RunsUnderWay.{comes_to_its_end, script_history, script_lines, stops_in_events, stops_in_rows}
use Rattle.si_engine.proofs.run.make_lines.Goals as goal

pub returns-in_err-engine : goal.returns-in_err-engine
returns-in_err-engine g c =
    let exit = err_from_is_err_and c.from_residual.result c.from_residual.ensures.1 in
    let set = draft_tree c.args.set.now in
    let before = string_bytes c.args.out.now in
    rw (exit.1, exit.2)
    (not_begun (MakesRun set c.args.script before) before (g.K.Sink.has_failed c.args.sink.now) (g.K.Sink.taken c.args.sink.now) (Err (fault.Input input_fault.Memory))
    (refl, adds_none (run_lines set c.args.script) before))

pub returns-in_err-run_events : goal.returns-in_err-run_events
returns-in_err-run_events g c =
    let exit = err_from_is_err_and c.from_residual-in_err-run_events.result c.from_residual-in_err-run_events.ensures.1 in
    let set = c.args.set.now in
    let script = c.args.script in
    let f = c.in_err-run_events.field-0.0 in
    let told = script_lines set c.draft-draft.result.now script c.in_ok-engine.engine c.in_ok-engine.ensures c.draft-draft.ensures.same _ _ _ _ _ (Err f) c.in_err-run_events.ensures.lines in
    rw (exit.1, exit.2) (stops_in_events (draft_tree set) script _ _ _ _ _ f told)

pub returns-in_err-ended : goal.returns-in_err-ended
returns-in_err-ended g c =
    let exit = err_from_is_err_and c.from_residual-in_err-ended.result c.from_residual-in_err-ended.ensures.1 in
    let set = c.args.set.now in
    let script = c.args.script in
    let d = c.draft-draft.result.now in
    let engine = c.in_ok-engine.engine in
    let ran = c.in_ok-run_events.ensures in
    let book = c.book-book.result.now in
    let is = c.book-book.ensures in
    let waiting = string_bytes c.run_events.new.out in
    let later = string_bytes c.push_findings_before-ended.new.out in
    let told = script_lines set d script engine c.in_ok-engine.ensures c.draft-draft.ensures.same _ _ _ _ _ (Ok tt) ran.lines in
    let first =
    subst (λ (r : Result Serializability AllocError). OnErr r (AddsFirst (end_lines (draft_tree book.set) book.opening (history_of book.rows)) waiting later))
    (c.branch-ended.ensures ∙ ap result_from_control_flow c.in_err-ended.is) c.push_findings_before-ended.ensures.err in
    let left =
    script_history set d script engine c.in_ok-engine.ensures c.draft-draft.ensures.same c.run_events.new.engine book ran.over ran.after is.set is.opening is.history
    (λ d o h. AddsFirst (end_lines d o h) waiting later) first in
    rw (exit.1, exit.2) (stops_in_rows (draft_tree set) script _ _ _ _ _ later told (fault.Input input_fault.Memory) refl left)

pub returns : goal.returns
returns g c =
    let set = c.args.set.now in
    let script = c.args.script in
    let d = c.draft-draft.result.now in
    let engine = c.in_ok-engine.engine in
    let ran = c.in_ok-run_events.ensures in
    let book = c.book-book.result.now in
    let is = c.book-book.ensures in
    let finding = c.in_ok-ended.field-0 in
    let waiting = string_bytes c.run_events.new.out in
    let later = string_bytes c.push_findings_before-ended.new.out in
    let told = script_lines set d script engine c.in_ok-engine.ensures c.draft-draft.ensures.same _ _ _ _ _ (Ok tt) ran.lines in
    let end =
    subst (λ (r : Result Serializability AllocError). IfOk r (λ found. AddsEnd (draft_tree book.set) book.opening (history_of book.rows) found waiting later))
    (c.branch-ended.ensures ∙ ap result_from_control_flow c.in_ok-ended.is) c.push_findings_before-ended.ensures.ok in
    let history =
    script_history set d script engine c.in_ok-engine.ensures c.draft-draft.ensures.same c.run_events.new.engine book ran.over ran.after is.set is.opening is.history in
    comes_to_its_end (draft_tree set) script _ _ _ _ _ later told finding (history IsHistory c.read_history.ensures)
    (history (λ d o h. AddsEnd d o h finding waiting later) end)
