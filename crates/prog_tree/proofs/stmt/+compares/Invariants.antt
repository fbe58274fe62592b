use Rattle.std.proofs.Common.{◌≡◌, ◌↔◌, length}
use Rattle.prog_tree.specs.Tree.{stmts_tree, block_tree}
use Rattle.prog_tree.proofs.stmt.+compares.Given as goal

-- as many statements are left in both, and they mean the same exactly where all do
abbrev pub invariant-Block::is_same-loop-stmt : goal.invariant-Block::is_same-loop-stmt
invariant-Block::is_same-loop-stmt l = record {
  length : length l.stmt-iterator.a.rest.now ≡ length l.stmt-iterator.b.rest.now;
  rest : (stmts_tree l.stmt-iterator.a.rest.now ≡ stmts_tree l.stmt-iterator.b.rest.now) ↔ (block_tree l.self ≡ block_tree l.other);
}
