use Rattle.std.proofs.Common.{◌≡◌, ◌++◌, take}
use Rattle.prog_tree.specs.Evaluation.{rows_without}
use Rattle.prog_run.proofs.region.push_left.Given as goal

abbrev pub invariant-loop-row : goal.invariant-loop-row
invariant-loop-row l = l.left.items ≡ l.fn.left.items ++ rows_without l.own (take l.row-index l.rows)
