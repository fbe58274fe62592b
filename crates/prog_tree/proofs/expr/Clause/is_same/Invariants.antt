use Rattle.std.proofs.Common.{◌≡◌, ◌↔◌, length, map}
use Rattle.prog_tree.specs.Tree.{comparison_tree, clause_tree}
use Rattle.prog_tree.proofs.expr.Clause.is_same.Given as goal

-- as many comparisons are left in both, and they mean the same exactly where all do
abbrev pub invariant-loop-comparison : goal.invariant-loop-comparison
invariant-loop-comparison l = record {
  length : length l.comparison-iterator.a.rest.now ≡ length l.comparison-iterator.b.rest.now;
  rest : (map comparison_tree l.comparison-iterator.a.rest.now ≡ map comparison_tree l.comparison-iterator.b.rest.now) ↔ (clause_tree l.self ≡ clause_tree l.other);
}
