-- What a vacuum leaves of a cell, and the touches by which it finds the cells.
use Rattle.std.specs.Prelude.{◌≡◌, ℕ, ◌+◌, ◌≤◌, ℤ, leb, List, [], ◌∷◌, ◌++◌, map, Option, Some, None, if◌then◌else◌}
use Rattle.prog_tree.specs.declared.cell.Cell.{Cell}
use Rattle.prog_tree.specs.ChangeSet.{ChangeSet}
use Rattle.prog_tree.specs.Table.{cells_of}

-- the version of a value, and none of a removal or of no row
abbrev pub shown : ℕ → Option ℤ → List (ℕ × Option ℤ)
shown n None = []
shown n (Some v) = (n, Some v) ∷ []

-- of versions that rise: those above f, and before them the newest at most f, unless it is a removal; where `held` is
-- the newest before them, unless it is a removal
abbrev pub versions_kept : (f : ℕ) → (held : List (ℕ × Option ℤ)) → List (ℕ × Option ℤ) → List (ℕ × Option ℤ)
versions_kept f held [] = held
versions_kept f held (v ∷ vs) = if leb v.0 f then versions_kept f (shown v.0 v.1) vs else held ++ v ∷ vs

-- of marks that rise, those above f
abbrev pub marks_kept : (f : ℕ) → List ℕ → List ℕ
marks_kept f [] = []
marks_kept f (m ∷ ms) = if leb m f then marks_kept f ms else m ∷ ms

-- ---- touches: which cell a commit changes or keeps, with its number

abbrev pub numbered : ℕ → List Cell → List (ℕ × Cell)
numbered n cells = map (λ c. (n, c)) cells

-- the touches of a commit: those of the changed cells, then those of the kept ones
abbrev pub touches_by : ℕ → ChangeSet → List (ℕ × Cell)
touches_by n w = numbered n (cells_of w.cells) ++ numbered n w.kept

-- the touches of the commits above f, where the first of them all has the number n
abbrev pub touches_above : (f : ℕ) → ℕ → List ChangeSet → List (ℕ × Cell)
touches_above f n [] = []
touches_above f n (w ∷ ws) =
    if leb n f then touches_above f (n + 1) ws else touches_by n w ++ touches_above f (n + 1) ws

-- of touches that rise, the cells of those at most f
abbrev pub within : (f : ℕ) → List (ℕ × Cell) → List Cell
within f [] = []
within f (t ∷ ts) = if leb t.0 f then t.1 ∷ within f ts else []

-- and the other touches
abbrev pub beyond : (f : ℕ) → List (ℕ × Cell) → List (ℕ × Cell)
beyond f [] = []
beyond f (t ∷ ts) = if leb t.0 f then beyond f ts else t ∷ ts

-- the first touch is at most f and was taken
abbrev pub TakesWithin : (f : ℕ) → Cell → List (ℕ × Cell) → List (ℕ × Cell) → Type 0
TakesWithin f cell before after = (number : ℕ) × (number ≤ f) × (before ≡ (number, cell) ∷ after)
