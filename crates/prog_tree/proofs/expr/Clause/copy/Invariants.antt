use Rattle.std.proofs.Common.{◌≡◌, map, take}
use Rattle.prog_tree.specs.Tree.{comparison_tree}
use Rattle.prog_tree.proofs.expr.Clause.copy.Given as goal

abbrev pub invariant-loop-comparison : goal.invariant-loop-comparison
invariant-loop-comparison l = map comparison_tree l.copies.items ≡ map comparison_tree (take l.comparison-index l.comparison-items)
