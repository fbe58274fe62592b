-- What the lines of a list say: rows, and behind them items. A keyword begins the line of an item, and what the words
-- behind it are is said of each kind of item.
use Rattle.std.specs.Prelude.{ℕ, ◌==◌, not, List, [], ◌∷◌, length, fold, Option, None, Result, Ok, Err, codes, bytes_eq, if◌then◌else◌}
use Rattle.std.specs.List.{flat_map}
use Rattle.prog_tree.specs.Syntax.{DraftTree}
use Rattle.prog_tree.specs.Table.{TableState, row_at, with_row}
use Rattle.si_engine.specs.declared.input.item_list.ItemList.{ItemList}
use Rattle.si_engine.specs.declared.input.list_line.ListLine.{ListLine}
use Rattle.si_engine.specs.declared.input.list_line.ListLine.TheVariants as says
use Rattle.si_engine.specs.declared.input.line_fault.LineFault.{LineFault}
use Rattle.si_engine.specs.declared.input.line_fault.LineFault.TheVariants.{BadLine}
use Rattle.si_engine.specs.Lines.{is_skipped, words_of}
use Rattle.si_engine.specs.LineFaults.{◌>>=◌}
use Rattle.si_engine.specs.RowLines.{row_line_of, row_fault}
use Rattle.si_engine.specs.Sayings.{made_of}

-- ---- what a line says

-- the words of a line that is not skipped; the first says what it is
unfoldable pub list_line_of :
    {T : Type 0} → (keyword : List ℕ) → (item_of : DraftTree → (line : ℕ) → List (List ℕ) → Result T LineFault) →
    DraftTree → (line : ℕ) → List (List ℕ) → Result (ListLine T) LineFault
list_line_of keyword item_of draft line [] = Err (BadLine line)
list_line_of keyword item_of draft line (word ∷ words) =
    if bytes_eq word (codes "row") then row_line_of draft line words >>= (λ row. Ok (says.Row row))
    else if bytes_eq word keyword then item_of draft line words >>= (λ item. Ok (says.Item item))
    else Err (BadLine line)

-- a line of a list, with its number
unfoldable pub list_line :
    {T : Type 0} → (keyword : List ℕ) → (item_of : DraftTree → (line : ℕ) → List (List ℕ) → Result T LineFault) →
    DraftTree → (line : ℕ) → List ℕ → Result (ListLine T) LineFault
list_line keyword item_of draft line bytes =
    if is_skipped bytes then Ok says.Skip else list_line_of keyword item_of draft line (words_of bytes)

-- ---- lines, one after another

-- the row of a line, among others
abbrev pub with_row_in : {T : Type 0} → TableState → ListLine T → TableState
with_row_in rows (says.Row row) = with_row rows row.cell row.value
with_row_in rows line = rows

-- the rows of lines
abbrev pub rows_in_lines : {T : Type 0} → List (ListLine T) → TableState
rows_in_lines lines = fold with_row_in [] lines

-- the item of a line
abbrev pub item_in : {T : Type 0} → ListLine T → List T
item_in (says.Item item) = item ∷ []
item_in line = []

-- the items of lines, in their order
abbrev pub items_in : {T : Type 0} → List (ListLine T) → List T
items_in lines = flat_map item_in lines

-- what is wrong with a line behind these rows and items, or nothing
abbrev pub item_fault : {T : Type 0} → (line : ℕ) → TableState → List T → ListLine T → Option LineFault
item_fault line rows items (says.Row row) = row_fault line (not (length items == 0)) (row_at rows row.cell)
item_fault line rows items said = None

-- the same behind lines
abbrev pub item_fault_behind : {T : Type 0} → (line : ℕ) → List (ListLine T) → ListLine T → Option LineFault
item_fault_behind line before said = item_fault line (rows_in_lines before) (items_in before) said

-- the rows and items of lines
abbrev pub list_with : {T : Type 0} → List (ListLine T) → ItemList T
list_with lines = record { rows = rows_in_lines lines; items = items_in lines }

-- the rows and items that all lines of a part make, or the first fault
abbrev pub list_of :
    {T : Type 0} → (keyword : List ℕ) → (item_of : DraftTree → (line : ℕ) → List (List ℕ) → Result T LineFault) →
    DraftTree → List ℕ → Result (ItemList T) LineFault
list_of keyword item_of draft part = made_of (list_line keyword item_of draft) item_fault_behind list_with part
