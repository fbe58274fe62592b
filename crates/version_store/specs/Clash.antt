-- Clashes: first committer wins.
use Rattle.std.specs.Prelude.{◌≡◌, ℕ, ◌+◌, ◌<◌, max, nat_lt, Bool, true, List, [], ◌∷◌, fold, Option, Some, None, if◌then◌else◌}
use Rattle.std.specs.BTreeSet.{insert_key}
use Rattle.std.specs.Ordering.{is_lt}
use Rattle.std.specs.declared.cmp.Ordering.TheVariants.{Less}
use Rattle.prog_tree.specs.declared.cell.Cell.{Cell}
use Rattle.prog_tree.specs.Table.{cell_cmp, cells_of}
use Rattle.prog_tree.specs.ChangeSet.{ChangeSet, touches_cell}

-- the greatest number of a commit that changes or keeps the cell, where the first of them has the number n; 0 where
-- there is none
abbrev pub last_touch : Cell → ℕ → List ChangeSet → ℕ
last_touch c n [] = 0
last_touch c n (w ∷ ws) = max (if touches_cell w c then n else 0) (last_touch c (n + 1) ws)

-- the least cell that passes the test and has a number above the start, with its number; none where there is none
abbrev pub IsFirstAbove : (Cell → Bool) → (Cell → ℕ) → (start : ℕ) → Option (Cell × ℕ) → Type 0
IsFirstAbove p number start None = (c : Cell) → p c ≡ true → start < number c → ⊥
IsFirstAbove p number start (Some x) =
    (p x.0 ≡ true) × (start < number x.0) × (x.1 ≡ number x.0) × ((c : Cell) → p c ≡ true → start < number c → cell_cmp c x.0 ≡ Less → ⊥)

-- the clash of a commit with those above its start: the least cell that it changes or keeps and that one of them
-- changes or keeps too, with the greatest number of such a commit; none where there is no such cell
abbrev pub IsClash : List ChangeSet → (start : ℕ) → ChangeSet → Option (Cell × ℕ) → Type 0
IsClash ws start w = IsFirstAbove (touches_cell w) (λ c. last_touch c 1 ws) start

-- ---- the same as a search

-- the first of the cells whose number is above the start, with its number
abbrev pub first_above : (Cell → ℕ) → (start : ℕ) → List Cell → Option (Cell × ℕ)
first_above number start [] = None
first_above number start (c ∷ cs) = if nat_lt start (number c) then Some (c, number c) else first_above number start cs

-- the one of two that has the lesser cell
abbrev pub lesser : Option (Cell × ℕ) → Option (Cell × ℕ) → Option (Cell × ℕ)
lesser None other = other
lesser (Some one) None = Some one
lesser (Some one) (Some other) = if is_lt (cell_cmp other.0 one.0) then Some other else Some one

-- cells in their order, with those of a list put in, each once
abbrev pub with_cells : List Cell → List Cell → List Cell
with_cells = fold (insert_key cell_cmp)

-- the cells that are changed or kept
abbrev pub touched : ChangeSet → List Cell
touched w = with_cells (with_cells [] (cells_of w.cells)) w.kept

-- the first of the cells that are changed or kept here and by a commit above the start
abbrev pub clash_of : List ChangeSet → ℕ → ChangeSet → Option (Cell × ℕ)
clash_of ws start w = first_above (λ c. last_touch c 1 ws) start (touched w)
