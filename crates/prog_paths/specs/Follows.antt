-- What it means that a run follows a path under an assignment.
use Rattle.std.specs.Prelude.{◌≡◌, ℕ, true, false, List, Contains, is_some, slice_get, Some, ◌⊎◌}
use Rattle.prog_tree.specs.declared.cell.Cell.{Cell}
use Rattle.prog_tree.specs.declared.look.Look.{Look}
use Rattle.prog_tree.specs.declared.look.Look.TheVariants as look
use Rattle.prog_tree.specs.Table.{is_cell_among, is_in, TableState, row_at}
use Rattle.prog_tree.specs.ChangeSet.{ChangeSet, change_at}
use Rattle.prog_tree.specs.Evaluation.{Evaluation}
use Rattle.prog_check.specs.declared.path.Kind.{Kind}
use Rattle.prog_check.specs.declared.path.Kind.TheVariants.{Reads, Sees, Lacks, Writes, Adds, Keeps}
use Rattle.prog_check.specs.declared.path.Access.{Access}
use Rattle.prog_check.specs.declared.path.Path.{Path}
use Rattle.prog_paths.specs.Meeting.{Assignment, IsOfOwn, cell_under, MayCover}

-- ---- what was looked at, changed and kept

-- the cells of a look: its cell, or those of its region but for the run's own
abbrev pub IsLookOf : Look → Cell → Type 0
IsLookOf (look.One cell found) c = c ≡ cell
IsLookOf (look.Range region own rows) c = (is_in region c ≡ true) × (is_cell_among own c ≡ false)

abbrev pub LooksAt : List Look → Cell → Type 0
LooksAt looks c = (l : Look) × Contains looks l × IsLookOf l c

abbrev pub Changes : ChangeSet → Cell → Type 0
Changes s c = is_some (change_at s c) ≡ true

abbrev pub KeepsCell : ChangeSet → Cell → Type 0
KeepsCell s c = is_cell_among s.kept c ≡ true

abbrev pub HasRow : TableState → Cell → Type 0
HasRow m c = is_some (row_at m c) ≡ true

-- ---- following

-- what a look of this kind found: `need` a row, `lacks` and `insert` none, and `insert` then changes the cell
abbrev pub FoundAs : Kind → Type 0 → Type 0 → Type 0
FoundAs kind found changed =
    (kind ≡ Reads) ⊎ ((kind ≡ Sees) × found) ⊎ ((kind ≡ Lacks) × (found → ⊥))
    ⊎ ((kind ≡ Adds) × (found → ⊥) × changed)

-- a change of this kind: `insert` in a grow table found no row before
abbrev pub ChangedAs : Kind → Type 0 → Type 0
ChangedAs kind found = (kind ≡ Writes) ⊎ ((kind ≡ Adds) × (found → ⊥))

-- an access of a list that is made of this cell at some time, and whose kind fits
abbrev pub Touch : List Access → Assignment → Cell → (Kind → Type 0) → Type 0
Touch accesses v c fits =
    (number : ℕ) × (a : Access) × (slice_get accesses number ≡ Some a) × IsOfOwn v a c × fits a.kind

-- a path under an assignment says what an evaluation on m looked at, changed and kept
pub record Follows (m : TableState) (path : Path) (v : Assignment) (e : Evaluation) : Type 0 where
  pub look : (c : Cell) → LooksAt e.looks c
      → Touch path.accesses v c (λ kind. FoundAs kind (HasRow m c) (Changes e.changes c))
  pub change : (c : Cell) → Changes e.changes c → Touch path.accesses v c (λ kind. ChangedAs kind (HasRow m c))
  pub keep : (c : Cell) → KeepsCell e.changes c → Touch path.accesses v c (λ kind. kind ≡ Keeps)
  pub touched : (n : ℕ) (a : Access) → slice_get path.accesses n ≡ Some a → MayCover a
      → Changes e.changes (cell_under v a) ⊎ KeepsCell e.changes (cell_under v a)
