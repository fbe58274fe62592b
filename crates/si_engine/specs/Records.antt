-- What a list of records says: its rows and its records, or its first fault.
use Rattle.std.specs.Prelude.{ℕ, Bool, List, [], ◌∷◌, Option, None, Result, Ok, Err, codes, bytes_eq, option_map, option_and_then, if◌then◌else◌}
use Rattle.std.specs.List.{before_first, after_first}
use Rattle.std.specs.Option.{ok_or}
use Rattle.prog_tree.specs.Syntax.{DraftTree}
use Rattle.prog_check.specs.Faults.{program_names}
use Rattle.history_book.specs.declared.instances.row.HistoryRow.{HistoryRow}
use Rattle.si_engine.specs.declared.input.item_list.ItemList.{ItemList}
use Rattle.si_engine.specs.declared.input.list_line.ListLine.{ListLine}
use Rattle.si_engine.specs.declared.input.record_line.RecordOutcome.{RecordOutcome}
use Rattle.si_engine.specs.declared.input.record_line.RecordWords.{RecordWords}
use Rattle.si_engine.specs.declared.input.line_fault.LineFault.{LineFault}
use Rattle.si_engine.specs.declared.input.line_fault.LineFault.TheVariants.{BadLine, UnknownName}
use Rattle.si_engine.specs.ListLines.{list_line, list_of}
use Rattle.si_engine.specs.Names.{number_named}
use Rattle.si_engine.specs.Numbers.{numbers_of, u64_of}
use Rattle.si_engine.specs.LineFaults.{◌>>=◌}

-- ---- what a line says

abbrev pub is_at : List ℕ → Bool
is_at word = bytes_eq word (codes "at")

abbrev pub is_gives : List ℕ → Bool
is_gives word = bytes_eq word (codes "gives")

-- a start and replies
abbrev pub outcome_with : List ℕ → List (List ℕ) → Option RecordOutcome
outcome_with start replies =
    option_and_then (λ n. option_map (λ ns. record { start = n; replies = ns }) (numbers_of replies)) (u64_of start)

-- START gives REPLY*
abbrev pub outcome_of : List (List ℕ) → Option RecordOutcome
outcome_of (start ∷ sign ∷ replies) = if is_gives sign then outcome_with start replies else None
outcome_of words = None

-- ARG* at START gives REPLY*: the first `at` ends the arguments
abbrev pub record_of : List (List ℕ) → Option RecordWords
record_of words =
    let outcome = outcome_of (after_first is_at words) in
    option_and_then (λ args. option_map (λ o. record { args = args; outcome = o }) outcome)
    (numbers_of (before_first is_at words))

-- the words behind `record`: PROGRAM ARG* at START gives REPLY*
unfoldable pub record_row_of : DraftTree → (line : ℕ) → List (List ℕ) → Result HistoryRow LineFault
record_row_of draft line [] = Err (BadLine line)
record_row_of draft line (name ∷ words) = do
  found ← ok_or (record_of words) (BadLine line)
  program ← ok_or (number_named (program_names draft) name) (UnknownName line)
  Ok (record { program = program; args = found.args; start = found.outcome.start; replies = found.outcome.replies })

-- a line of a list of records, with its number
abbrev pub record_line : DraftTree → (line : ℕ) → List ℕ → Result (ListLine HistoryRow) LineFault
record_line draft line bytes = list_line (codes "record") record_row_of draft line bytes

-- the rows and records that all lines of a part make, or the first fault
abbrev pub records_of : DraftTree → List ℕ → Result (ItemList HistoryRow) LineFault
records_of draft part = list_of (codes "record") record_row_of draft part
