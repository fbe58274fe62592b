use Rattle.std.proofs.Common.{◌≡◌, drop}
use Rattle.prog_tree.specs.Pieces.{rows_of}
use Rattle.prog_tree.proofs.row_walk.walk_over.Given as goal

-- no row stands in the pieces before
abbrev pub invariant-loop-number : goal.invariant-loop-number
invariant-loop-number l = rows_of (drop l.number l.pieces) ≡ rows_of l.pieces
