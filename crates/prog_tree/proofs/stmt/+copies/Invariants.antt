use Rattle.std.proofs.Common.{◌≡◌, map, take}
use Rattle.prog_tree.specs.Tree.{stmt_tree}
use Rattle.prog_tree.proofs.stmt.+copies.Given as goal

abbrev pub invariant-Block::copy-loop-stmt : goal.invariant-Block::copy-loop-stmt
invariant-Block::copy-loop-stmt l = map stmt_tree l.copies.items ≡ map stmt_tree (take l.stmt-index l.stmt-items)
