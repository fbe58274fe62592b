use Rattle.std.proofs.Common.{◌≡◌, ◌+◌, ◌+ℤ◌, drop, length}
use Rattle.prog_tree.specs.Table.{total_of}
use Rattle.prog_tree.specs.Pieces.{rows_of}
use Rattle.prog_tree.proofs.row_pieces.sums_of.Given as goal

abbrev pub invariant-loop-piece : goal.invariant-loop-piece
invariant-loop-piece l = record {
  len : l.sums.len + length (rows_of (drop l.piece-index l.pieces)) ≡ length (rows_of l.pieces);
  total : l.sums.total +ℤ total_of (rows_of (drop l.piece-index l.pieces)) ≡ total_of (rows_of l.pieces);
}
