use Rattle.std.proofs.Common.{drop}
use Rattle.std.specs.List.{All}
use Rattle.prog_tree.specs.Tree.{stmts_tree, block_tree}
use Rattle.prog_tree.specs.Number.{IsI64}
use Rattle.prog_tree.specs.Literals.{block_literals}
use Rattle.prog_check.proofs.literals.+read.Given as goal

-- the statements that are left decide
abbrev pub invariant-read_block-loop-stmt : goal.invariant-read_block-loop-stmt
invariant-read_block-loop-stmt l = All IsI64 (block_literals (stmts_tree (drop l.stmt-index l.stmt-items))) → All IsI64 (block_literals (block_tree l.block))
