-- The states of a book that a worker knows, and what runs read in them.
use Rattle.std.specs.Prelude.{◌≡◌, ℕ, ℤ, true, All, List, [], Option, Some, IsSome, slice_get}
use Rattle.prog_tree.specs.declared.cell.Cell.{Cell}
use Rattle.prog_tree.specs.declared.cell.Region.{Region}
use Rattle.prog_tree.specs.Table.{TableState, is_in, row_at, rows_in}
use Rattle.prog_run.specs.Looks.{AreFound}
use Rattle.prog_run.specs.View.{RunView}

-- each row is one of the region
abbrev pub AreRowsOf : Region → TableState → Type 0
AreRowsOf region rows = All (λ row. is_in region row.0 ≡ true) rows

-- what is known of the state after `start` commits holds
abbrev pub OfKnown : List TableState → (start : ℕ) → (TableState → Type 0) → Type 0
OfKnown states start P = (m : TableState) → slice_get states start ≡ Some m → P m

-- the cell holds this there
abbrev pub IsValueAt : List TableState → (start : ℕ) → Cell → Option ℤ → Type 0
IsValueAt states start cell held = OfKnown states start (λ m. row_at m cell ≡ held)

-- the region has these rows there
abbrev pub AreRowsAt : List TableState → (start : ℕ) → Region → TableState → Type 0
AreRowsAt states start region rows = OfKnown states start (λ m. rows_in region m ≡ rows)

-- something is known of that state
abbrev pub IsKnown : List TableState → (start : ℕ) → Type 0
IsKnown states start = IsSome (slice_get states start)

-- all that the run looked at is what is held there, and where it looked at something, that state is known
pub record IsFoundIn (states : List TableState) (start : ℕ) (run : RunView) : Type 0 where
  pub found : OfKnown states start (λ m. AreFound m run.looks)
  pub known : (run.looks ≡ [] → ⊥) → IsKnown states start
