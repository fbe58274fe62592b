-- Corners of regions, and what lies between two cells.
use Rattle.std.specs.Prelude.{◌≡◌, Bool, true, false, ◌&&◌, not, Option, Some, None}
use Rattle.std.specs.Ordering.{is_gt, is_le, is_lt}
use Rattle.prog_tree.specs.declared.cell.Cell.{Cell}
use Rattle.prog_tree.specs.declared.cell.Region.{Region}
use Rattle.prog_tree.specs.Table.{cell_cmp, is_in}

-- a cell lies between two others in the order of cells, or is one of them
abbrev pub is_between : Cell → Cell → Cell → Bool
is_between low high c = is_le (cell_cmp low c) && not (is_lt (cell_cmp high c))

-- one cell does not come behind another in the order of cells
abbrev pub AreInOrder : Cell → Cell → Type 0
AreInOrder low high = is_gt (cell_cmp low high) ≡ false

-- both are cells of a region, in order
abbrev pub AreCellsOf : Region → Cell → Cell → Type 0
AreCellsOf region low high = is_in region low ≡ true × is_in region high ≡ true × AreInOrder low high

-- the least and the greatest cell of a region; none where it has no cell
abbrev pub AreCorners : Region → Option (Cell × Cell) → Type 0
AreCorners region None = (c : Cell) → is_in region c ≡ false
AreCorners region (Some corners) =
    AreCellsOf region corners.0 corners.1
    × ((c : Cell) → is_in region c ≡ true → is_between corners.0 corners.1 c ≡ true)
