use Rattle.std.proofs.Common.{◌≡◌, drop}
use Rattle.prog_tree.specs.Tree.{stmts_tree, block_tree}
use Rattle.prog_paths.specs.Trails.{commits}
use Rattle.prog_paths.proofs.path.walk.+commits.Given as goal

-- the statements that are left decide
abbrev pub invariant-commits-loop-stmt : goal.invariant-commits-loop-stmt
invariant-commits-loop-stmt l = commits (stmts_tree (drop l.stmt-index l.stmt-items)) ≡ commits (block_tree l.block)
