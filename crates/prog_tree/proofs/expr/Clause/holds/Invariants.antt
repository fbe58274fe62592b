use Rattle.std.proofs.Common.{◌≡◌, map, drop}
use Rattle.std.specs.Prelude.{Some, ◌&&◌}
use Rattle.prog_tree.specs.Tree.{comparison_tree, clause_tree}
use Rattle.prog_tree.specs.Value.{pair_of, all_hold}
use Rattle.prog_tree.proofs.expr.Clause.holds.Given as goal

-- what was found so far, joined with what the comparisons that are left give, is what all of them give
abbrev pub invariant-loop-comparison : goal.invariant-loop-comparison
invariant-loop-comparison l = pair_of ◌&&◌ (Some l.holds) (all_hold (map comparison_tree (drop l.comparison-index l.comparison-items)) l.env) ≡ all_hold (clause_tree l.self) l.env
