use Rattle.std.proofs.Common.{map, drop}
use Rattle.std.specs.List.{All}
use Rattle.prog_tree.specs.Tree.{clause_tree, test_tree}
use Rattle.prog_tree.specs.Number.{IsI64}
use Rattle.prog_tree.specs.Literals.{test_literals}
use Rattle.prog_check.proofs.literals.read_test.Given as goal

-- the clauses that are left decide
abbrev pub invariant-loop-clause : goal.invariant-loop-clause
invariant-loop-clause l = All IsI64 (test_literals (map clause_tree (drop l.clause-index l.clause-items))) → All IsI64 (test_literals (test_tree l.test))
