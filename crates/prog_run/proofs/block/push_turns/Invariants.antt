use Rattle.std.proofs.Common.{◌≡◌, ◌++◌, take}
use Rattle.prog_tree.specs.Tree.{range_tree}
use Rattle.prog_tree.specs.Evaluation.{turns_of}
use Rattle.prog_run.proofs.block.push_turns.Given as goal

abbrev pub invariant-loop-cell : goal.invariant-loop-cell
invariant-loop-cell l = l.turns.items ≡ l.fn.turns.items ++ turns_of (range_tree l.range) (take l.cell-index l.rows)
