-- Cells, regions and table states.
use Rattle.std.specs.Prelude.{ℤ, pos, ◌+ℤ◌, ◌==◌, int_le, Bool, ◌&&◌, not, List, [], ◌∷◌, map, filter, Option, Some, None}
use Rattle.std.specs.List.{list_any, All}
use Rattle.std.specs.List.Sorted.{IsStrictlySortedBy}
use Rattle.std.specs.Ordering.{nat_cmp, int_cmp, ordering_then}
use Rattle.std.specs.declared.cmp.Ordering.{Ordering}
use Rattle.std.specs.BTreeMap.{insert_entry, is_at}
use Rattle.std.specs.Map.{lookup}
use Rattle.prog_tree.specs.declared.cell.Cell.{Cell}
use Rattle.prog_tree.specs.declared.cell.Region.{Region}
use Rattle.prog_tree.specs.Number.{IsI64}

-- the order of cells: by table, then by the first column, then by the second
abbrev pub cell_cmp : Cell → Cell → Ordering
cell_cmp a b =
    ordering_then (nat_cmp a.table b.table) (ordering_then (int_cmp a.first b.first) (int_cmp a.second b.second))

abbrev pub is_same_cell : Cell → Cell → Bool
is_same_cell a b = is_at (cell_cmp a) b

abbrev pub is_cell_among : List Cell → Cell → Bool
is_cell_among cells c = list_any (is_same_cell c) cells

abbrev pub lies_between : ℤ → ℤ → ℤ → Bool
lies_between low x high = int_le low x && int_le x high

-- both ends of both columns belong to a region
abbrev pub is_in : Region → Cell → Bool
is_in r c =
    (r.table == c.table) && (lies_between r.first_low c.first r.first_high && lies_between r.second_low c.second r.second_high)

-- a finite map from cells: what each of them has, in cell order and each cell once
abbrev pub Cells : Type 0 → Type 0
Cells A = List (Cell × A)

abbrev pub cells_of : {A : Type 0} → Cells A → List Cell
cells_of m = map (λ entry. entry.0) m

abbrev pub at_cell : {A : Type 0} → Cells A → Cell → Option A
at_cell m c = lookup (is_same_cell c) m

abbrev pub with_cell : {A : Type 0} → Cells A → Cell → A → Cells A
with_cell m c v = insert_entry cell_cmp m c v

-- a table state: the rows of all tables, a finite map from cells to i64
abbrev pub TableState : Type 0
TableState = Cells ℤ

-- its cells rise strictly, so each stands once
abbrev pub IsTableState : TableState → Type 0
IsTableState m = IsStrictlySortedBy cell_cmp (cells_of m)

-- both columns of a cell are i64
abbrev pub IsI64Cell : Cell → Type 0
IsI64Cell c = IsI64 c.first × IsI64 c.second

-- the columns and the value of a row are i64
abbrev pub IsI64Row : Cell × ℤ → Type 0
IsI64Row row = IsI64Cell row.0 × IsI64 row.1

abbrev pub HasI64Rows : TableState → Type 0
HasI64Rows m = All IsI64Row m

abbrev pub row_at : TableState → Cell → Option ℤ
row_at = at_cell

abbrev pub with_row : TableState → Cell → ℤ → TableState
with_row = with_cell

-- the row of a cell, where it holds something
abbrev pub row_held : Cell → Option ℤ → TableState
row_held c None = []
row_held c (Some v) = (c, v) ∷ []

abbrev pub without_row : TableState → Cell → TableState
without_row m c = filter (λ row. not (is_same_cell c row.0)) m

abbrev pub rows_in : Region → TableState → TableState
rows_in r m = filter (λ row. is_in r row.0) m

-- the values of rows, added up
abbrev pub total_of : TableState → ℤ
total_of [] = pos 0
total_of (row ∷ rows) = row.1 +ℤ total_of rows
