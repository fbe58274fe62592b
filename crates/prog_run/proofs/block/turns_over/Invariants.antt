use Rattle.std.proofs.Common.{◌≡◌, ◌++◌, drop}
use Rattle.prog_tree.specs.Tree.{range_tree}
use Rattle.prog_tree.specs.Evaluation.{turns_of}
use Rattle.prog_tree.specs.Pieces.{rows_of}
use Rattle.prog_run.proofs.block.turns_over.Given as goal

abbrev pub invariant-loop-piece : goal.invariant-loop-piece
invariant-loop-piece l = l.turns.items ++ turns_of (range_tree l.range) (rows_of (drop l.piece-index l.piece-items)) ≡ turns_of (range_tree l.range) l.rows
