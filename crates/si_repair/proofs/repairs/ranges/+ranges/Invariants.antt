use Rattle.std.proofs.Common.{◌≡◌, ◌++◌, drop}
use Rattle.prog_tree.specs.Tree.{stmts_tree, block_tree}
use Rattle.si_repair.specs.Obstacles.{range_list}
use Rattle.si_repair.proofs.repairs.ranges.+ranges.Given as goal

-- the ranges so far, with those of the statements that are left
abbrev pub invariant-push_block-loop-stmt : goal.invariant-push_block-loop-stmt
invariant-push_block-loop-stmt l = l.ranges.items ++ range_list (stmts_tree (drop l.stmt-index l.stmt-items)) ≡ l.fn.ranges.items ++ range_list (block_tree l.block)
