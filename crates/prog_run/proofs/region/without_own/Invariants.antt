use Rattle.std.proofs.Common.{◌≡◌, ◌++◌, drop}
use Rattle.prog_tree.specs.Evaluation.{rows_without}
use Rattle.prog_tree.specs.Pieces.{rows_of}
use Rattle.prog_run.proofs.region.without_own.Given as goal

abbrev pub invariant-loop-piece : goal.invariant-loop-piece
invariant-loop-piece l = l.left.items ++ rows_without l.own (rows_of (drop l.piece-index l.piece-items)) ≡ rows_without l.own l.rows
