use Rattle.std.proofs.Common.{◌≡◌, ◌↔◌, length}
use Rattle.prog_tree.proofs.same_rows.same_row_by_row.Given as goal

-- what is left is the same where all is
abbrev pub invariant-loop-row : goal.invariant-loop-row
invariant-loop-row l = (l.left ≡ l.right) ↔ (l.rows ≡ l.others)

abbrev pub decreases-loop-row : goal.decreases-loop-row
decreases-loop-row l = length l.left
