use Rattle.std.proofs.Common.{◌≡◌, map, drop}
use Rattle.std.specs.Prelude.{Some, ◌||◌}
use Rattle.prog_tree.specs.Tree.{clause_tree, test_tree}
use Rattle.prog_tree.specs.Value.{pair_of, holds_of}
use Rattle.prog_tree.proofs.expr.Test.holds.Given as goal

-- what was found so far, joined with what the clauses that are left give, is what all of them give
abbrev pub invariant-loop-clause : goal.invariant-loop-clause
invariant-loop-clause l = pair_of ◌||◌ (Some l.holds) (holds_of (map clause_tree (drop l.clause-index l.clause-items)) l.env) ≡ holds_of (test_tree l.self) l.env
