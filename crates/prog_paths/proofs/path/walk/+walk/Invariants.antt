use Rattle.std.proofs.Common.{◌≡◌, ◌+◌, ◌*◌, ◌≤◌, drop, map}
use Rattle.prog_tree.specs.Tree.{stmt_tree, stmts_tree, block_tree}
use Rattle.prog_check.specs.Paths.{routes, statement_count}
use Rattle.prog_paths.specs.Trails.{AreLow, alone, along, all_along}
use Rattle.prog_paths.proofs.path.walk.+walk.Given as goal

-- a block calls for its statements, and a branch for its blocks
abbrev pub decreases-walk_block : goal.decreases-walk_block
decreases-walk_block l = 2 * statement_count (block_tree l.block.now) + 1

abbrev pub decreases-walk_stmt : goal.decreases-walk_stmt
decreases-walk_stmt l = 2 * statement_count (alone (stmt_tree l.stmt.now))

-- the trails so far, along the statements that are left
abbrev pub invariant-walk_block-loop-stmt : goal.invariant-walk_block-loop-stmt
invariant-walk_block-loop-stmt l = record {
  number : l.number + statement_count (stmts_tree (drop l.stmt-index l.stmt-items)) ≡ l.fn.number + statement_count (block_tree l.block);
  past : l.fn.number ≤ l.number;
  low : AreLow l.number l.trails.items;
  trails : all_along l.set.tables.items l.params l.trails.items (routes l.number (stmts_tree (drop l.stmt-index l.stmt-items))) ≡ map (along l.set.tables.items l.params l.fn.trail) (routes l.fn.number (block_tree l.block));
}

-- the trails so far are behind the branch, and those that are left are low
abbrev pub invariant-walk_stmt-loop-trail : goal.invariant-walk_stmt-loop-trail
invariant-walk_stmt-loop-trail l = record {
  passed : l.passed.items ≡ all_along l.set.tables.items l.params l.yielded (routes l.number (alone (stmt_tree l.stmt)));
  low : AreLow l.number l.trail-iterator.rest.items;
}
