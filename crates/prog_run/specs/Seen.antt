-- What a run sees in a region: the rows of a look, with its own changes among them.
use Rattle.std.specs.Prelude.{◌≡◌, ℕ, [], ◌∷◌, None, unwrap_or}
use Rattle.std.specs.List.{prefix_len}
use Rattle.std.specs.Ordering.{is_lt}
use Rattle.prog_tree.specs.declared.cell.Cell.{Cell}
use Rattle.prog_tree.specs.Table.{cell_cmp, TableState, row_at}
use Rattle.prog_tree.specs.ChangeSet.{ChangedCells}
use Rattle.prog_run.specs.declared.region.Found.{Found}

-- how many rows stand in front whose cells come before this one
abbrev pub rows_before : Cell → TableState → ℕ
rows_before c rows = prefix_len (λ row. is_lt (cell_cmp row.0 c)) rows

-- none of the changed cells has a row
abbrev pub AreAbsent : TableState → ChangedCells → Type 0
AreAbsent rows [] = Unit {0}
AreAbsent rows (entry ∷ entries) = (row_at rows entry.0 ≡ None) × AreAbsent rows entries

-- the rows that a run sees, of what its look found
abbrev pub seen_by : Found → TableState
seen_by found = unwrap_or found.changed found.rows
