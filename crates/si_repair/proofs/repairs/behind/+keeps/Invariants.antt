use Rattle.std.proofs.Common.{◌≡◌, ◌+◌, ◌*◌, ◌≤◌, drop}
use Rattle.prog_tree.specs.Tree.{stmt_tree, stmts_tree, with_stmts, block_tree}
use Rattle.prog_check.specs.Paths.{statement_count}
use Rattle.repair_laws.specs.Promoted.{with_keeps}
use Rattle.si_repair.specs.Behind.{count_by}
use Rattle.si_repair.specs.Marks.{is_marked}
use Rattle.si_repair.proofs.repairs.behind.+keeps.Given as goal

-- a block calls for its statements, and a branch for its blocks
abbrev pub decreases-keeps_in_block : goal.decreases-keeps_in_block
decreases-keeps_in_block l = 2 * statement_count (block_tree l.block.now) + 1

abbrev pub decreases-keeps_in_stmt : goal.decreases-keeps_in_stmt
decreases-keeps_in_stmt l = 2 * count_by (stmt_tree l.stmt.now)

-- what is made so far, with keeps in the rest, is the block with keeps
abbrev pub invariant-keeps_in_block-loop-stmt : goal.invariant-keeps_in_block-loop-stmt
invariant-keeps_in_block-loop-stmt l = record {
  counted : l.next + statement_count (stmts_tree (drop l.stmt-index l.stmt-items)) ≡ l.number + statement_count (block_tree l.block);
  past : l.number ≤ l.next;
  kept :
      with_stmts l.stmts.items (with_keeps (is_marked l.marks l.program) l.next (stmts_tree (drop l.stmt-index l.stmt-items)))
      ≡ with_keeps (is_marked l.marks l.program) l.number (block_tree l.block);
}
