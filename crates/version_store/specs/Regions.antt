-- The rows of regions.
use Rattle.std.specs.Prelude.{◌≡◌, ℕ, ℤ, List, Option, Some, None, if◌then◌else◌}
use Rattle.prog_tree.specs.declared.cell.Cell.{Cell}
use Rattle.prog_tree.specs.declared.cell.Region.{Region}
use Rattle.prog_tree.specs.Table.{is_in, is_cell_among, lies_between, Cells, TableState, IsTableState, row_at, with_row}
use Rattle.version_store.specs.StandsFor.{VersionChain}
use Rattle.version_store.specs.Reading.{chain_at, value_at}

-- what a region has of a cell with a chain, after the first n commits
abbrev pub seen_in : Region → (n : ℕ) → Cell → VersionChain → Option ℤ
seen_in region n c chain = if is_in region c then value_at n chain else None

-- what a region has of a cell with a chain, unless it is one of some own cells
abbrev pub seen_left : Region → List Cell → (n : ℕ) → Cell → VersionChain → Option ℤ
seen_left region own n c chain = if is_cell_among own c then None else seen_in region n c chain

-- what a region has of a cell with a chain, after the first n commits, as the second column alone tells; between the
-- corners of the region that is what it has
abbrev pub seen_between : Region → (n : ℕ) → Cell → VersionChain → Option ℤ
seen_between region n c chain =
    if lies_between region.second_low c.second region.second_high then value_at n chain else None

-- the same, unless the cell is one of some own cells
abbrev pub left_between : Region → List Cell → (n : ℕ) → Cell → VersionChain → Option ℤ
left_between region own n c chain = if is_cell_among own c then None else seen_between region n c chain

-- what all regions together have of a cell with a chain, after the first n commits
abbrev pub seen_anywhere : (n : ℕ) → Cell → VersionChain → Option ℤ
seen_anywhere n c chain = value_at n chain

-- rows with that of a cell, where there is one
abbrev pub with_found : TableState → Cell → Option ℤ → TableState
with_found rows c None = rows
with_found rows c (Some value) = with_row rows c value

-- a table state has of each cell what is seen of its chain
abbrev pub IsSeen : (Cell → VersionChain → Option ℤ) → Cells VersionChain → TableState → Type 0
IsSeen seen chains m = IsTableState m × ((c : Cell) → row_at m c ≡ seen c (chain_at chains c))
