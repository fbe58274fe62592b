-- The touches of a commit, one behind another, and what each does to a chain.
use Rattle.std.specs.Prelude.{ℕ, List, ◌++◌, map}
use Rattle.prog_tree.specs.declared.cell.Cell.{Cell}
use Rattle.prog_tree.specs.ChangeSet.{ChangedCells}
use Rattle.prog_tree.specs.Table.{Cells}
use Rattle.version_store.specs.declared.touches.Touch.{Touch}
use Rattle.version_store.specs.declared.touches.Touch.TheVariants.{Change, Keep}
use Rattle.version_store.specs.StandsFor.{VersionChain}
use Rattle.version_store.specs.Reading.{with_version, with_mark}

-- some changed cells, then some kept ones, each with what is done to it
abbrev pub touches_left : ChangedCells → List Cell → Cells Touch
touches_left changed kept = map (λ e. (e.0, Change e.1)) changed ++ map (λ c. (c, Keep)) kept

-- a chain with what a commit of a number does to its cell
abbrev pub with_touch : ℕ → Touch → VersionChain → VersionChain
with_touch n (Change value) chain = with_version n value chain
with_touch n Keep chain = with_mark n chain
