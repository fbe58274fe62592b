use Rattle.std.proofs.Common.{◌≡◌, ◌↔◌, length, map}
use Rattle.prog_tree.specs.Tree.{clause_tree, test_tree}
use Rattle.prog_tree.proofs.expr.Test.is_same.Given as goal

-- as many clauses are left in both, and they mean the same exactly where all do
abbrev pub invariant-loop-clause : goal.invariant-loop-clause
invariant-loop-clause l = record {
  length : length l.clause-iterator.a.rest.now ≡ length l.clause-iterator.b.rest.now;
  rest : (map clause_tree l.clause-iterator.a.rest.now ≡ map clause_tree l.clause-iterator.b.rest.now) ↔ (test_tree l.self ≡ test_tree l.other);
}
