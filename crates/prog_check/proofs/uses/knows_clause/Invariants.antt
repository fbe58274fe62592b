use Rattle.std.proofs.Common.{◌≡◌, map, drop}
use Rattle.std.specs.List.{list_all}
use Rattle.prog_tree.specs.Tree.{comparison_tree, clause_tree}
use Rattle.prog_check.specs.Names.{is_among}
use Rattle.prog_check.specs.Uses.{clause_names}
use Rattle.prog_check.proofs.uses.knows_clause.Given as goal

-- the comparisons that are left decide
abbrev pub invariant-loop-comparison : goal.invariant-loop-comparison
invariant-loop-comparison l =
    list_all (is_among l.known) (clause_names (map comparison_tree (drop l.comparison-index l.comparison-items))) ≡ list_all (is_among l.known) (clause_names (clause_tree l.clause))
