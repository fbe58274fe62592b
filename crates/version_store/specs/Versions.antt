-- Versions of cells, and those that a vacuum leaves.
use Rattle.std.specs.Prelude.{ℕ, ◌+◌, ◌-◌, ℤ, nat_lt, nat_le, Bool, not, ◌&&◌, ◌||◌, is_some, List, [], ◌∷◌, ◌++◌, length, map, filter, Option, Some}
use Rattle.std.specs.List.{list_any}
use Rattle.prog_tree.specs.declared.cell.Cell.{Cell}
use Rattle.prog_tree.specs.ChangeSet.{ChangeSet}
use Rattle.prog_tree.specs.Table.{is_same_cell, TableState}

-- a value or a removal of a cell, by the number of its commit; opening rows have number 0
pub record CellVersion : Type 0 where
  pub cell : Cell
  pub number : ℕ
  pub value : Option ℤ

-- the versions that commits make, where the first of them has the number n
abbrev pub versions_from : ℕ → List ChangeSet → List CellVersion
versions_from n [] = []
versions_from n (w ∷ ws) = map (λ e. record { cell = e.0; number = n; value = e.1 }) w.cells ++ versions_from (n + 1) ws

-- all versions of a history
abbrev pub versions_of : TableState → List ChangeSet → List CellVersion
versions_of opening ws =
    map (λ row. record { cell = row.0; number = 0; value = Some row.1 }) opening ++ versions_from 1 ws

-- no version of the same cell is newer and at most f
abbrev pub is_newest : List CellVersion → ℕ → CellVersion → Bool
is_newest vs f v =
    not (list_any (λ u. is_same_cell u.cell v.cell && (nat_lt v.number u.number && nat_le u.number f)) vs)

-- it is above f, or it is the newest of its cell at most f and no removal
abbrev pub is_retained : List CellVersion → ℕ → CellVersion → Bool
is_retained vs f v = nat_lt f v.number || (is_newest vs f v && is_some v.value)

-- the versions above f, and of each cell the newest at most f, unless it is a removal
abbrev pub retained : TableState → List ChangeSet → ℕ → List CellVersion
retained opening ws f = let vs = versions_of opening ws in filter (is_retained vs f) vs

-- the versions of a cell, each as its number and its value
abbrev pub versions_at : Cell → List CellVersion → List (ℕ × Option ℤ)
versions_at c vs = map (λ v. (v.number, v.value)) (filter (λ v. is_same_cell c v.cell) vs)

-- how many versions a vacuum at f takes, after one at f0
abbrev pub reclaimed : TableState → List ChangeSet → ℕ → ℕ → ℕ
reclaimed opening ws f0 f = length (retained opening ws f0) - length (retained opening ws f)
