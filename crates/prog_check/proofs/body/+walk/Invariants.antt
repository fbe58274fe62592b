use Rattle.std.proofs.Common.{◌≡◌, ◌+◌, drop, false}
use Rattle.prog_tree.specs.Tree.{stmts_tree, block_tree}
use Rattle.prog_check.specs.Faults.{block_fault}
use Rattle.prog_check.specs.Names.{Extends}
use Rattle.prog_check.specs.Paths.{statement_count}
use Rattle.prog_check.proofs.body.+walk.Given as goal

-- the statements that are left have the first fault of the block, and its last numbers
abbrev pub invariant-check_block-loop-stmt : goal.invariant-check_block-loop-stmt
invariant-check_block-loop-stmt l = record {
  fault : block_fault l.tables l.program l.at.number l.aborted l.at.visible (stmts_tree (drop l.stmt-index l.stmt-items))
      ≡ block_fault l.tables l.program l.initial.at.number false l.initial.at.visible (block_tree l.block);
  number : l.at.number + statement_count (stmts_tree (drop l.stmt-index l.stmt-items)) ≡ l.initial.at.number + statement_count (block_tree l.block);
  visible : Extends l.initial.at.visible l.at.visible;
}
