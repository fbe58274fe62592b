-- What a run of a script writes.
use Rattle.std.specs.Prelude.{◌≡◌, ℕ, Bool, true, false, List, [], ◌∷◌, ◌++◌, length, map, Option, Result, Ok, Err, IfOk}
use Rattle.std.specs.List.{concat, zip}
use Rattle.prog_tree.specs.declared.table.TableDecl.{TableDecl}
use Rattle.prog_tree.specs.Syntax.{DraftTree}
use Rattle.prog_tree.specs.Table.{TableState}
use Rattle.prog_check.specs.Paths.{paths_of}
use Rattle.prog_paths.specs.StaticGraph.{IsDangerous}
use Rattle.history_book.specs.History.{Instance, state_after}
use Rattle.si_engine.specs.declared.event.Event.{Event}
use Rattle.si_engine.specs.declared.output.finding.Serializability.{Serializability}
use Rattle.si_engine.specs.declared.output.finding.Serializability.TheVariants.{Order}
use Rattle.si_engine.specs.declared.input.script.Script.{Script}
use Rattle.si_engine.specs.declared.robust.run.Outcome.{Outcome}
use Rattle.si_engine.specs.declared.input.part_fault.PartFault.{PartFault}
use Rattle.si_engine.specs.declared.input.part_fault.PartFault.TheVariants as fault
use Rattle.si_engine.specs.declared.input.source.InputFault.TheVariants as input_fault
use Rattle.si_engine.specs.Headline.{Exchange, Headline, IsLeastOrdered}
use Rattle.si_engine.specs.LastLine.{last_line, IsLastLine}
use Rattle.si_engine.specs.Machine.{Machine, new_machine, machine_after, replies_of}
use Rattle.si_engine.specs.Printed.{reply_line, printed_row}
use Rattle.si_engine.specs.Sources.{ForInput}
use Rattle.si_engine.specs.Script.{IsScript, IsScriptFault}
use Rattle.si_engine.specs.Writing.{WritesOr}

-- one line for each event that was answered
abbrev pub exchange_lines : List TableDecl → List Exchange → List (List ℕ)
exchange_lines tables said = map (λ exchange. reply_line tables exchange.0 exchange.1) said

-- one line for each event that the machine is handed: what it answers
abbrev pub event_lines : DraftTree → TableState → List Event → Machine → List (List ℕ)
event_lines set opening events machine = exchange_lines set.tables (zip events (replies_of set opening events machine))

-- one line for each row of a state, in cell order
abbrev pub row_lines : DraftTree → TableState → List (List ℕ)
row_lines set state = map (λ row. printed_row set.tables row.0 row.1) state

-- one line for each row that a history leaves
abbrev pub end_lines : DraftTree → TableState → List Instance → List (List ℕ)
end_lines set opening h = row_lines set (state_after set opening h (length h))

-- what a script commits
abbrev pub history_of_run : DraftTree → Script → List Instance
history_of_run set script = (machine_after set script.rows script.events new_machine).history

-- the lines that a script makes before the last line: one for each of its events, and the rows that are left
abbrev pub run_lines : DraftTree → Script → List (List ℕ)
run_lines set script =
    event_lines set script.rows script.events new_machine ++ end_lines set script.rows (history_of_run set script)

-- lines were added to a text
abbrev pub AddsLines : List (List ℕ) → List ℕ → List ℕ → Type 0
AddsLines lines before after = after ≡ before ++ concat lines

-- some first of these lines were added to a text, or all of them
abbrev pub AddsFirst : List (List ℕ) → List ℕ → List ℕ → Type 0
AddsFirst lines before after =
    (done : List (List ℕ)) × (rest : List (List ℕ)) × (lines ≡ done ++ rest) × AddsLines done before after

-- after a history: the rows that are left, one line each, and the last line
abbrev pub AddsEnd : DraftTree → TableState → List Instance → Serializability → List ℕ → List ℕ → Type 0
AddsEnd set opening h finding before after =
    (last : List ℕ) × IsLastLine set opening h finding last
    × AddsLines (end_lines set opening h ++ last ∷ []) before after

-- all lines of a script, and the last line
abbrev pub AddsRun : DraftTree → Script → Serializability → List ℕ → List ℕ → Type 0
AddsRun set script finding before after =
    (last : List ℕ) × IsLastLine set script.rows (history_of_run set script) finding last
    × AddsLines (run_lines set script ++ last ∷ []) before after

-- lines were added to a text: all of them, or some first ones, behind which memory ran out
abbrev pub MakesLines : List (List ℕ) → (before after : List ℕ) → Result (Unit {0}) PartFault → Type 0
MakesLines lines before after (Ok done) = AddsLines lines before after
MakesLines lines before after (Err f) = (f ≡ fault.Input input_fault.Memory) × AddsFirst lines before after

-- on a set without a dangerous structure, a run finds an order
abbrev pub IsOrderIfSafe : DraftTree → Serializability → Type 0
IsOrderIfSafe set finding = ¬ IsDangerous (paths_of set) → finding ≡ Order

-- the lines of a script were added to a text: all of them, and the last line; or some first lines before that, behind
-- which memory ran out
abbrev pub MakesRun : DraftTree → Script → (before after : List ℕ) → Result Serializability PartFault → Type 0
MakesRun set script before after (Ok finding) = AddsRun set script finding before after × IsOrderIfSafe set finding
MakesRun set script before after (Err f) =
    (f ≡ fault.Input input_fault.Memory) × AddsFirst (run_lines set script) before after

-- what a run of these bytes writes, and how it ends
pub data IsRunOf (set : DraftTree) (part : List ℕ) : List ℕ → Result Serializability PartFault → Type 0 where
  -- all lines of the script that the bytes are, and the last line
  done :
      (script : Script) → IsScript set part script → (finding : Serializability) → (written : List ℕ) →
      AddsRun set script finding [] written → IsRunOf set part written (Ok finding)
  -- nothing, and the first fault
  refused : (f : PartFault) → IsScriptFault set part f → IsRunOf set part [] (Err f)
  -- some first lines before the last, behind which memory ran out
  stopped :
      (script : Script) → IsScript set part script → (written : List ℕ) →
      AddsFirst (run_lines set script) [] written → IsRunOf set part written (Err (fault.Input input_fault.Memory))

-- what a run of a source that failed writes, and how it ends
pub data IsUnreadRun : List ℕ → Result Serializability PartFault → Type 0 where
  unread : IsUnreadRun [] (Err (fault.Input input_fault.ReadFault))

-- what a run of a source writes, and how it ends: that of bytes that the source can give, or that it failed
abbrev pub IsRunReply :
    DraftTree → (left : Option (List ℕ)) → (failed : Bool) → List ℕ → Result Serializability PartFault → Type 0
IsRunReply set left false written ended = ForInput left (λ part. IsRunOf set part written ended)
IsRunReply set left true written ended = IsUnreadRun written ended

-- and where it ends well, the set being without a dangerous structure, it ends in an order
abbrev pub IsSafeReply :
    DraftTree → (left : Option (List ℕ)) → (failed : Bool) → List ℕ → Result Serializability PartFault → Type 0
IsSafeReply set left failed written ended = IsRunReply set left failed written ended × IfOk ended (IsOrderIfSafe set)

-- and that of a run on a robust set, which ends in an order
abbrev pub IsOrderedReply :
    DraftTree → (left : Option (List ℕ)) → (failed : Bool) → List ℕ → Result Serializability PartFault → Type 0
IsOrderedReply set left failed written ended =
    IsRunReply set left failed written ended × IfOk ended (λ finding. finding ≡ Order)

-- A script is run from a source to a sink: the sink gets what such a run writes, and the run's end is told; or the sink
-- failed, has some first of it, and that is told.
abbrev pub IsScriptRun :
    DraftTree → (left : Option (List ℕ)) → (failed lost : Bool) → (old new : Option (List ℕ)) →
    Result Serializability PartFault → Type 0
IsScriptRun set left failed lost old new ended =
    WritesOr (Err fault.WriteFault) (IsRunReply set left failed) lost old new ended

-- and so on a robust set, where a run that ends well ends in an order
abbrev pub IsRobustScriptRun :
    DraftTree → (left : Option (List ℕ)) → (failed lost : Bool) → (old new : Option (List ℕ)) →
    Result Serializability PartFault → Type 0
IsRobustScriptRun set left failed lost old new ended =
    WritesOr (Err fault.WriteFault) (IsOrderedReply set left failed) lost old new ended

-- ---- the headline, of what is written

-- the lines that events came to: what each was answered, the rows that are left, and the order
abbrev pub outcome_lines : DraftTree → List Event → Outcome → List (List ℕ)
outcome_lines set events o =
    exchange_lines set.tables (zip events o.replies) ++ row_lines set o.table ++ last_line Order o.order ∷ []

-- where the last line of a script is an order, what was written is the lines of an outcome of which the headline holds
abbrev pub LawOfWrittenOrders : Type 0
LawOfWrittenOrders =
    (set : DraftTree) (script : Script) (written : List ℕ) → AddsRun set script Order [] written →
    (o : Outcome) × Headline set script.rows script.events o × IsLeastOrdered set script.rows script.events o
    × (written ≡ concat (outcome_lines set script.events o))
