-- Which of two commits has to stand before the other, by what each of them saw, changed and looked at.
use Rattle.std.specs.Prelude.{ℕ, nat_lt, nat_le, ◌==◌, Bool, not, ◌&&◌, ◌||◌}
use Rattle.prog_tree.specs.declared.cell.Cell.{Cell}

-- of a commit: how many commits it sees, which cells it changes and looks at, and whether a changed cell passes a test
pub record Part : Type 0 where
  pub start : ℕ
  pub changes : Cell → Bool
  pub looks : Cell → Bool
  pub changes_some : (Cell → Bool) → Bool

module _ (part : ℕ → Part) where
  -- both change a cell, in commit order
  abbrev pub changes_again_by : ℕ → ℕ → Bool
  changes_again_by i j = nat_lt i j && (part i).changes_some (part j).changes

  -- the second looks at a cell that the first changes, and its snapshot has the change
  abbrev pub sees_change_by : ℕ → ℕ → Bool
  sees_change_by i j = nat_le i (part j).start && (part i).changes_some (part j).looks

  -- the first looks at a cell that the second changes, and its snapshot lacks the change
  abbrev pub misses_change_by : ℕ → ℕ → Bool
  misses_change_by i j = nat_lt (part i).start j && (part j).changes_some (part i).looks

  -- one of two different commits has to stand before the other in every serial order that gives the same
  abbrev pub depends_by : ℕ → ℕ → Bool
  depends_by i j = not (i == j) && (changes_again_by i j || (sees_change_by i j || misses_change_by i j))
