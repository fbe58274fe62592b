-- Laws on runs whose lines are under way to a sink.
use Rattle.std.proofs.Common.{◌≡◌, List, [], ◌∷◌, ◌++◌, ℕ, Bool, true, false, Option, Result, Ok, Err, refl, ap, sym, subst, ◌∙◌, append_assoc}
use Rattle.std.proofs.lemmas.Result.{IfOk-weaker}
use Rattle.prog_tree.specs.Syntax.{DraftTree}
use Rattle.prog_tree.specs.Table.{TableState}
use Rattle.prog_tree.specs.Tree.{draft_tree}
use Rattle.prog_tree.specs.declared.program.Draft.{Draft}
use Rattle.prog_check.specs.Paths.{paths_of}
use Rattle.prog_paths.specs.StaticGraph.{IsDangerous}
use Rattle.history_book.specs.History.{Instance}
use Rattle.history_book.specs.View.{BookView, history_of}
use Rattle.si_engine.specs.declared.input.part_fault.PartFault.{PartFault}
use Rattle.si_engine.specs.declared.input.part_fault.PartFault.TheVariants as fault
use Rattle.si_engine.specs.declared.input.script.Script.{Script}
use Rattle.si_engine.specs.declared.input.source.InputFault.TheVariants as input_fault
use Rattle.si_engine.specs.declared.output.finding.Serializability.{Serializability}
use Rattle.si_engine.specs.declared.output.finding.Serializability.TheVariants.{Order, Cycle}
use Rattle.si_engine.specs.Machine.{Machine, machine_after, new_machine}
use Rattle.si_engine.specs.Robustness.{IsHistory}
use Rattle.si_engine.specs.Runs.{event_lines, end_lines, run_lines, history_of_run, AddsLines, AddsFirst, AddsEnd, AddsRun, IsOrderedReply, IsOrderIfSafe, IsRobustScriptRun, IsRunOf, IsRunReply, IsSafeReply, IsScriptRun, MakesLines, MakesRun}
use Rattle.si_engine.specs.Script.{IsScript}
use Rattle.si_engine.specs.Sources.{ForInput}
use Rattle.si_engine.specs.View.{EngineView, StaysOver}
use Rattle.si_engine.specs.Writing.{AppendsFront, IsUnderWay, WritesOr, WritesSoFar}
use Rattle.si_engine.proofs.CycleLaws.{law_of_safe_sets}
use Rattle.si_engine.proofs.OutputLaws.{adds_after, adds_all, adds_behind, adds_both, adds_first_of, first_after_more}
use Rattle.si_engine.proofs.RunLaws.{run_done, run_stopped}
use Rattle.si_engine.proofs.SinkLaws.{goes_on, has_front, under_way, writes_as}

-- on a set without a dangerous structure a lawful history is found to have an order
order_if_safe : (set : DraftTree) (script : Script) (finding : Serializability) (s t : List ℕ) → IsHistory set script.rows (history_of_run set script)
    → AddsRun set script finding s t → IsOrderIfSafe set finding
order_if_safe set script Order s t is added = λ safe. refl
order_if_safe set script Cycle s t is (last, (numbers, cycle, line), added) =
    λ safe. absurd (law_of_safe_sets set script.rows (history_of_run set script) safe is numbers cycle)

-- ---- the lines of events, one after another

-- a run stops behind some first lines of events, since memory ran out: they are under way,
module _ (lines done later : List (List ℕ)) (before text waiting : List ℕ) (failed : Bool) (old new : Option (List ℕ)) (is : lines ≡ done ++ later) (added : AddsLines done before text) where
  pub events_stop : failed ≡ false → IsUnderWay waiting old new text → WritesSoFar (MakesLines lines before) waiting failed old new (Err (fault.Input input_fault.Memory))
  events_stop works way = under_way (MakesLines lines before) waiting text failed old new (Err (fault.Input input_fault.Memory)) works (refl, (done, later, is, added)) way

  -- or the sink failed, and has some first bytes of them
  pub events_cut : (ended : Result (Unit {0}) PartFault) → failed ≡ true → AppendsFront old new text → WritesSoFar (MakesLines lines before) waiting failed old new ended
  events_cut ended fails front = has_front (MakesLines lines before) waiting text failed old new (Err (fault.Input input_fault.Memory)) ended fails (refl, (done, later, is, added)) front

-- ---- from an engine to its script

-- an engine on a script's rows, in which nothing has begun
abbrev opened : Draft → Script → EngineView
opened set script = record { set = set; opening = script.rows; machine = new_machine }

-- where an engine was opened so, the lines of the events are those of the script,
module _ (set d : Draft) (script : Script) (e : EngineView) (is : e ≡ opened set script) (same : d ≡ set) where
  pub script_lines : (before waiting : List ℕ) (failed : Bool) (old new : Option (List ℕ)) (ended : Result (Unit {0}) PartFault)
      → WritesSoFar (MakesLines (event_lines (draft_tree d) e.opening script.events e.machine) before) waiting failed old new ended
      → WritesSoFar (MakesLines (event_lines (draft_tree set) script.rows script.events new_machine) before) waiting failed old new ended
  script_lines before waiting failed old new ended so_far =
      subst (λ (x : Draft). WritesSoFar (MakesLines (event_lines (draft_tree x) script.rows script.events new_machine) before) waiting failed old new ended) same
      (subst (λ (x : EngineView). WritesSoFar (MakesLines (event_lines (draft_tree d) x.opening script.events x.machine) before) waiting failed old new ended) is so_far)

  -- and what is so of the book behind the events, is so of what the script commits
  pub script_history : (f : EngineView) (v : BookView) → StaysOver e f → f.machine ≡ machine_after (draft_tree d) e.opening script.events e.machine
      → v.set ≡ f.set → v.opening ≡ f.opening → history_of v.rows ≡ f.machine.history → (P : DraftTree → TableState → List Instance → Type 0)
      → P (draft_tree v.set) v.opening (history_of v.rows) → P (draft_tree set) script.rows (history_of_run (draft_tree set) script)
  script_history f v over after same_set same_opening same_history P holds =
      subst (P (draft_tree set) script.rows) is_history
      (subst (λ (o : TableState). P (draft_tree set) o (history_of v.rows)) is_opening
      (subst (λ (x : Draft). P (draft_tree x) v.opening (history_of v.rows)) is_set holds))
    where
      is_set : v.set ≡ set
      is_set = same_set ∙ (over.0 ∙ ap (λ (x : EngineView). x.set) is)

      is_opening : v.opening ≡ script.rows
      is_opening = same_opening ∙ (over.1 ∙ ap (λ (x : EngineView). x.opening) is)

      is_history : history_of v.rows ≡ history_of_run (draft_tree set) script
      is_history =
          same_history
          ∙ (ap (λ (m : Machine). m.history) after
          ∙ (ap (λ (x : Draft). (machine_after (draft_tree x) e.opening script.events e.machine).history) same
          ∙ ap (λ (x : EngineView). (machine_after (draft_tree set) x.opening script.events x.machine).history) is))

-- ---- the lines of a script's events, and then those of its end

module _ (set : DraftTree) (script : Script) (before waiting : List ℕ) (failed : Bool) (old new : Option (List ℕ)) where
  abbrev lines : List (List ℕ)
  lines = event_lines set script.rows script.events new_machine

  abbrev lines_of_end : List (List ℕ)
  lines_of_end = end_lines set script.rows (history_of_run set script)

  -- the lines of events are some first lines of the script
  events_alone : (text : List ℕ) (meant : Result (Unit {0}) PartFault) → MakesLines lines before text meant
      → MakesRun set script before text (Err (fault.Input input_fault.Memory))
  events_alone text (Ok done) added = (refl, adds_first_of lines lines_of_end before text (adds_all lines before text text added refl))
  events_alone text (Err f) (is, first) = (refl, adds_first_of lines lines_of_end before text first)

  pub stops_in_events : (f : PartFault) → WritesSoFar (MakesLines lines before) waiting failed old new (Err f) → WritesSoFar (MakesRun set script before) waiting failed old new (Err f)
  stops_in_events f so_far =
      goes_on (MakesLines lines before) (MakesRun set script before) waiting waiting failed old new (Err f) (Err f)
      (λ sent made. (made.0, adds_first_of lines lines_of_end before (sent ++ waiting) made.1))
      (λ text meant made. (Err (fault.Input input_fault.Memory), events_alone text meant made)) so_far

  module _ (later : List ℕ) (so_far : WritesSoFar (MakesLines lines before) waiting failed old new (Ok tt)) where
    pub stops_in_rows : (f : PartFault) → f ≡ fault.Input input_fault.Memory → AddsFirst lines_of_end waiting later → WritesSoFar (MakesRun set script before) later failed old new (Err f)
    stops_in_rows f is first =
        goes_on (MakesLines lines before) (MakesRun set script before) waiting later failed old new (Ok tt) (Err f)
        (λ sent made. (
          is,
          adds_behind lines lines_of_end before (sent ++ waiting) (sent ++ later) made (first_after_more lines_of_end sent waiting later first),
        ))
        (λ text meant made. (Err (fault.Input input_fault.Memory), events_alone text meant made)) so_far

    pub comes_to_its_end : (finding : Serializability) → IsHistory set script.rows (history_of_run set script) → AddsEnd set script.rows (history_of_run set script) finding waiting later
        → WritesSoFar (MakesRun set script before) later failed old new (Ok finding)
    comes_to_its_end finding lawful (last, found, added) =
        goes_on (MakesLines lines before) (MakesRun set script before) waiting later failed old new (Ok tt) (Ok finding)
        (λ sent made. let all = all_lines sent made in (all, order_if_safe set script finding before (sent ++ later) lawful all))
        (λ text meant made. (Err (fault.Input input_fault.Memory), events_alone text meant made)) so_far
      where
        all_lines : (sent : List ℕ) → AddsLines lines before (sent ++ waiting) → AddsRun set script finding before (sent ++ later)
        all_lines sent made = (
          last,
          found,
          subst (λ l. AddsLines l before (sent ++ later)) (sym (append_assoc lines lines_of_end (last ∷ [])))
              (adds_both lines (lines_of_end ++ last ∷ []) before (sent ++ waiting) (sent ++ later) made (adds_after (lines_of_end ++ last ∷ []) sent waiting later added)),
        )

-- ---- what a run replies

module _ (set : DraftTree) (left : Option (List ℕ)) (script : Script) where
  run_reply : (source_failed : Bool) → (source_failed ≡ true → ⊥) → ForInput left (λ part. IsScript set part script) → (before : List ℕ) → before ≡ [] → (text : List ℕ) (ended : Result Serializability PartFault)
      → MakesRun set script before text ended → IsSafeReply set left source_failed text ended
  run_reply true works is before empty text ended made = absurd (works refl)
  run_reply false works is before empty text (Ok finding) (added, safe) =
      (run_done set left script finding text is (subst (λ b. AddsRun set script finding b text) empty added), safe)
  run_reply false works is before empty text (Err f) (memory, first) = (
    subst (λ (g : PartFault). ForInput left (λ part. IsRunOf set part text (Err g))) (sym memory)
        (run_stopped set left script text is (subst (λ b. AddsFirst (run_lines set script) b text) empty first)),
    tt,
  )

  pub replies_so_far : (source_failed : Bool) → (source_failed ≡ true → ⊥) → ForInput left (λ part. IsScript set part script) → (before : List ℕ) → before ≡ []
      → (waiting : List ℕ) (failed : Bool) (old new : Option (List ℕ)) (ended : Result Serializability PartFault)
      → WritesSoFar (MakesRun set script before) waiting failed old new ended → WritesSoFar (IsSafeReply set left source_failed) waiting failed old new ended
  replies_so_far source_failed works is before empty waiting failed old new ended so_far =
      goes_on (MakesRun set script before) (IsSafeReply set left source_failed) waiting waiting failed old new ended ended
      (λ sent made. run_reply source_failed works is before empty (sent ++ waiting) ended made)
      (λ text meant made. (meant, run_reply source_failed works is before empty text meant made)) so_far

-- what was written so is a run of a script, and where the set is safe one that ends in an order
pub runs_written : (set : DraftTree) (left : Option (List ℕ)) (source_failed failed : Bool) (old new : Option (List ℕ)) (ended : Result Serializability PartFault)
    → WritesOr (Err fault.WriteFault) (IsSafeReply set left source_failed) failed old new ended
    → IsScriptRun set left source_failed failed old new ended × (¬ IsDangerous (paths_of set) → IsRobustScriptRun set left source_failed failed old new ended)
runs_written set left source_failed failed old new ended writes = (
  writes_as (Err fault.WriteFault) (IsSafeReply set left source_failed) (IsRunReply set left source_failed) failed old new ended (λ text end is. is.0) writes,
  λ safe.
      writes_as (Err fault.WriteFault) (IsSafeReply set left source_failed) (IsOrderedReply set left source_failed) failed old new ended
      (λ text end is. (is.0, IfOk-weaker end (IsOrderIfSafe set) (λ finding. finding ≡ Order) (λ finding order. order safe) is.1)) writes,
)
