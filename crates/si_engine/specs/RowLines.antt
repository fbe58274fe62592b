-- Row lines, which scripts, records and jobs share.
use Rattle.std.specs.Prelude.{ℕ, ℤ, pos, Bool, List, [], ◌∷◌, Option, Some, None, Result, Ok, is_some, codes, bytes_eq, option_map, option_and_then, slice_get, if◌then◌else◌}
use Rattle.std.specs.Option.{ok_or}
use Rattle.prog_tree.specs.declared.cell.Cell.{Cell}
use Rattle.prog_tree.specs.declared.table.Arity.{Arity}
use Rattle.prog_tree.specs.declared.table.Arity.TheVariants as arities
use Rattle.prog_tree.specs.Syntax.{DraftTree}
use Rattle.prog_check.specs.Faults.{table_names}
use Rattle.si_engine.specs.declared.input.row_line.Keys.{Keys}
use Rattle.si_engine.specs.declared.input.row_line.Keys.TheVariants.{One, Two}
use Rattle.si_engine.specs.declared.input.row_line.RowLine.{RowLine}
use Rattle.si_engine.specs.declared.input.row_line.RowWords.{RowWords}
use Rattle.si_engine.specs.declared.input.line_fault.LineFault.{LineFault}
use Rattle.si_engine.specs.declared.input.line_fault.LineFault.TheVariants.{BadLine, UnknownName, WrongKeys, LateRow, RepeatedRow}
use Rattle.si_engine.specs.LineFaults.{◌>>=◌}
use Rattle.si_engine.specs.Names.{number_named}
use Rattle.si_engine.specs.Numbers.{i64_of}

abbrev pub is_equals_sign : List ℕ → Bool
is_equals_sign word = bytes_eq word (codes "=")

abbrev pub one_key : List ℕ → Option Keys
one_key key = option_map One (i64_of key)

abbrev pub two_keys : List ℕ → List ℕ → Option Keys
two_keys first second = option_and_then (λ a. option_map (Two a) (i64_of second)) (i64_of first)

-- a row, where its keys and its value are numbers
abbrev pub row_of : List ℕ → Option Keys → Option ℤ → Option RowWords
row_of table keys value =
    option_and_then (λ k. option_map (λ v. record { table = table; keys = k; value = v }) value) keys

-- a row's words: its table, its keys and its value, of which all but the table are numbers
abbrev pub row_with : List ℕ → Option Keys → (sign value : List ℕ) → Option RowWords
row_with table keys sign value = if is_equals_sign sign then row_of table keys (i64_of value) else None

-- TABLE K = V, or TABLE K1 K2 = V
abbrev pub row_words : List (List ℕ) → Option RowWords
row_words (table ∷ key ∷ sign ∷ value ∷ []) = row_with table (one_key key) sign value
row_words (table ∷ first ∷ second ∷ sign ∷ value ∷ []) = row_with table (two_keys first second) sign value
row_words words = None

-- how many key columns the table of a number has
abbrev pub arity_of : DraftTree → ℕ → Option Arity
arity_of draft table = option_map (λ declared. declared.arity) (slice_get draft.tables table)

-- the cell at keys, where they are as many as the table's key columns
abbrev pub cell_of_keys : Arity → ℕ → Keys → Option Cell
cell_of_keys arities.One table (One a) = Some (record { table = table; first = a; second = pos 0 })
cell_of_keys arities.Two table (Two a b) = Some (record { table = table; first = a; second = b })
cell_of_keys arity table keys = None

-- the words behind `row`
unfoldable pub row_line_of : DraftTree → (line : ℕ) → List (List ℕ) → Result RowLine LineFault
row_line_of draft line words = do
  row ← ok_or (row_words words) (BadLine line)
  table ← ok_or (number_named (table_names draft) row.table) (UnknownName line)
  arity ← ok_or (arity_of draft table) (UnknownName line)
  cell ← ok_or (cell_of_keys arity table row.keys) (WrongKeys line)
  Ok (record { cell = cell; value = row.value })

-- what is wrong with a row behind the rows so far: it is late where a line of another kind stands before it, and
-- repeated where a row has its cell
abbrev pub row_fault : (line : ℕ) → (late : Bool) → (earlier : Option ℤ) → Option LineFault
row_fault line late earlier =
    if late then Some (LateRow line)
    else if is_some earlier then Some (RepeatedRow line)
    else None
