-- What an instance writes, and a table state with its changes made.
use Rattle.std.specs.Prelude.{ℤ, Bool, ◌||◌, List, [], ◌∷◌, filter, Option, Some, None, is_some, IfSome, All}
use Rattle.std.specs.BTreeSet.{insert_key}
use Rattle.prog_tree.specs.declared.cell.Cell.{Cell}
use Rattle.prog_tree.specs.declared.cell.Region.{Region}
use Rattle.prog_tree.specs.Corners.{is_between}
use Rattle.prog_tree.specs.Number.{IsI64}
use Rattle.prog_tree.specs.Table.{cell_cmp, is_cell_among, is_in, IsI64Cell, Cells, at_cell, with_cell, TableState, with_row, without_row}

-- the changed cells: each to a value, or removed
abbrev pub ChangedCells : Type 0
ChangedCells = Cells (Option ℤ)

-- the columns of each changed cell are i64, and so is its new value
abbrev pub HasI64Changes : ChangedCells → Type 0
HasI64Changes changes = All (λ entry. IsI64Cell entry.0 × IfSome entry.1 IsI64) changes

-- the changed cells, and those that are kept
pub record ChangeSet : Type 0 where
  pub cells : ChangedCells
  pub kept : List Cell

abbrev pub no_changes : ChangeSet
no_changes = record { cells = []; kept = [] }

abbrev pub change_at : ChangeSet → Cell → Option (Option ℤ)
change_at s c = at_cell s.cells c

abbrev pub with_change : ChangeSet → Cell → Option ℤ → ChangeSet
with_change s c w = record s { cells = with_cell s.cells c w }

abbrev pub with_kept : ChangeSet → Cell → ChangeSet
with_kept s c = record s { kept = insert_key cell_cmp s.kept c }

-- a cell is changed or kept
abbrev pub touches_cell : ChangeSet → Cell → Bool
touches_cell s c = is_some (change_at s c) || is_cell_among s.kept c

-- the changes of a region's cells
abbrev pub changes_in : Region → ChangedCells → ChangedCells
changes_in r changes = filter (λ entry. is_in r entry.0) changes

-- the changes of the cells from one to another
abbrev pub changes_between : (low high : Cell) → ChangedCells → ChangedCells
changes_between low high changes = filter (λ entry. is_between low high entry.0) changes

-- a state with one change made
abbrev pub changed_row : TableState → Cell → Option ℤ → TableState
changed_row m c (Some v) = with_row m c v
changed_row m c None = without_row m c

-- a state with changes made, the last one first; each cell stands once, so their order doesn't matter
abbrev pub changed : TableState → ChangedCells → TableState
changed m [] = m
changed m (entry ∷ entries) = changed_row (changed m entries) entry.0 entry.1
