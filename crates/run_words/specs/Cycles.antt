-- What the words of a cycle say.
use Rattle.std.specs.Prelude.{ℕ, List, [], ◌∷◌, ◌++◌, Option, Some, None, codes}
use Rattle.std.specs.Fmt.{decimal}
use Rattle.prog_tree.specs.Syntax.{DraftTree}
use Rattle.prog_tree.specs.Tree.{draft_tree}
use Rattle.serial_orders.specs.Reasons.{told_reason}
use Rattle.history_book.specs.View.{BookView, nth_row, traces_in}
use Rattle.history_book.specs.declared.instances.row.HistoryRow.{HistoryRow}
use Rattle.serial_orders.specs.declared.reason.OrderReason.{OrderReason}
use Rattle.serial_orders.specs.declared.reason.OrderReason.TheVariants.{Both, Saw, Missed, MissedIn}
use Rattle.text_places.specs.Listing.{bracketed}
use Rattle.fault_words.specs.Naming.{cell_text, program_name, region_text}

-- what is said of the whole
abbrev pub heading : List ℕ
heading =
    codes "no serial order: each of these commits has to stand before the next, and the last before the first\n"

-- an instance as a call, as `Transfer(3, 5, 20)`
abbrev pub call_text : DraftTree → HistoryRow → List ℕ
call_text set row = program_name set row.program ++ bracketed row.args

-- a number that is of no commit has no call
abbrev pub call_or_none : DraftTree → Option HistoryRow → List ℕ
call_or_none set None = []
call_or_none set (Some row) = call_text set row

-- what the first of two commits did, before the number of the second
abbrev pub ahead_text : DraftTree → Option OrderReason → List ℕ
ahead_text set (Some (Both cell)) = codes "changed " ++ (cell_text set cell ++ codes " before")
ahead_text set (Some (Saw cell)) = codes "changed " ++ (cell_text set cell ++ codes ", and")
ahead_text set (Some (Missed cell)) = codes "looked at " ++ (cell_text set cell ++ codes ", and missed what")
ahead_text set (Some (MissedIn region cell)) =
    codes "looked at " ++ (region_text set region ++ codes ", and missed what")
ahead_text set None = codes "stands before"

-- what the second did, behind its number
abbrev pub behind_text : DraftTree → Option OrderReason → List ℕ
behind_text set (Some (Both cell)) = codes " did"
behind_text set (Some (Saw cell)) = codes " saw it"
behind_text set (Some (Missed cell)) = codes " changed there"
behind_text set (Some (MissedIn region cell)) = codes " changed at " ++ cell_text set cell
behind_text set None = []

-- the line of a commit, with its call and why it has to stand before the next
abbrev pub commit_line : DraftTree → (call : List ℕ) → Option OrderReason → (number next : ℕ) → List ℕ
commit_line set call reason number next =
    codes "commit " ++ (decimal number ++ (codes ", `" ++ (call ++ (codes "`, " ++ (ahead_text set reason
    ++ (codes " commit " ++ (decimal next ++ (behind_text set reason ++ codes "\n"))))))))

abbrev pub line_text : BookView → (number next : ℕ) → List ℕ
line_text book number next =
    commit_line (draft_tree book.set) (call_or_none (draft_tree book.set) (nth_row book.rows number))
    (told_reason (traces_in book) number next) number next

-- the first of some numbers, or another where there is none
abbrev pub first_or : (numbers : List ℕ) → (other : ℕ) → ℕ
first_or [] other = other
first_or (number ∷ numbers) other = number

-- a line for each commit, in their order; the last of them stands before the commit `end`
abbrev pub lines_text : BookView → (numbers : List ℕ) → (end : ℕ) → List ℕ
lines_text book [] end = []
lines_text book (number ∷ numbers) end = line_text book number (first_or numbers end) ++ lines_text book numbers end

-- a line for each commit of a cycle, along it, behind a heading; the last stands before the first
abbrev pub cycle_text : BookView → (numbers : List ℕ) → List ℕ
cycle_text book numbers = heading ++ lines_text book numbers (first_or numbers 0)
