use Rattle.std.proofs.Common.{◌≡◌, ◌+◌, ◌≤◌, drop, min}
use Rattle.prog_tree.specs.Tree.{stmts_tree, block_tree}
use Rattle.prog_check.specs.Paths.{statement_count}
use Rattle.prog_paths.proofs.path.walk.+sizes.Given as goal

-- the statements so far, with those that are left
abbrev pub invariant-count_statements-loop-stmt : goal.invariant-count_statements-loop-stmt
invariant-count_statements-loop-stmt l = record {
  few : l.count ≤ 257;
  counted : min (l.count + statement_count (stmts_tree (drop l.stmt-index l.stmt-items))) 257 ≡ min (statement_count (block_tree l.block)) 257;
}
