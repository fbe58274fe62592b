use Rattle.std.proofs.Common.{◌≡◌, length}
use Rattle.prog_tree.specs.Pieces.{rows_of}
use Rattle.prog_tree.proofs.same_rows.are_same_pieces.Given as goal

-- where what is left is the same, all is
abbrev pub invariant-loop-piece : goal.invariant-loop-piece
invariant-loop-piece l =
    (length l.piece-iterator.a.rest.now ≡ length l.piece-iterator.b.rest.now)
    × (rows_of l.piece-iterator.a.rest.now ≡ rows_of l.piece-iterator.b.rest.now → rows_of l.pieces ≡ rows_of l.others)
