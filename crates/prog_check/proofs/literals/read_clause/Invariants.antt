use Rattle.std.proofs.Common.{map, drop}
use Rattle.std.specs.List.{All}
use Rattle.prog_tree.specs.Tree.{comparison_tree, clause_tree}
use Rattle.prog_tree.specs.Number.{IsI64}
use Rattle.prog_tree.specs.Literals.{clause_literals}
use Rattle.prog_check.proofs.literals.read_clause.Given as goal

-- the comparisons that are left decide
abbrev pub invariant-loop-comparison : goal.invariant-loop-comparison
invariant-loop-comparison l =
    All IsI64 (clause_literals (map comparison_tree (drop l.comparison-index l.comparison-items))) → All IsI64 (clause_literals (clause_tree l.clause))
