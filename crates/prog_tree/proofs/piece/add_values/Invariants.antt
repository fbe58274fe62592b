use Rattle.std.proofs.Common.{◌≡◌, ◌*◌, ◌^◌, pos, neg_ℤ, ◌+ℤ◌, ◌≤ℤ◌, drop}
use Rattle.prog_tree.specs.Table.{total_of}
use Rattle.prog_tree.proofs.piece.add_values.Given as goal

abbrev pub invariant-loop-row : goal.invariant-loop-row
invariant-loop-row l = record {
  total : l.total +ℤ total_of (drop l.row-index l.rows) ≡ total_of l.rows;
  above : l.total ≤ℤ pos (2 ^ 63 * l.row-index);
  below : neg_ℤ (pos (2 ^ 63 * l.row-index)) ≤ℤ l.total;
}
