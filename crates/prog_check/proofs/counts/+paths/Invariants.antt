use Rattle.std.proofs.Common.{◌≡◌, ◌*◌, ◌≤◌, drop, min}
use Rattle.prog_tree.specs.Tree.{stmts_tree, block_tree}
use Rattle.prog_check.specs.Counts.{path_count}
use Rattle.prog_check.proofs.counts.+paths.Given as goal

-- the paths so far, each with the paths of the statements that are left
abbrev pub invariant-count_paths-loop-stmt : goal.invariant-count_paths-loop-stmt
invariant-count_paths-loop-stmt l = record {
  few : l.count ≤ 33;
  paths : min (l.count * path_count (stmts_tree (drop l.stmt-index l.stmt-items))) 33 ≡ min (path_count (block_tree l.block)) 33;
}
