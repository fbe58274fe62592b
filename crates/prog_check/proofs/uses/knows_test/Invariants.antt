use Rattle.std.proofs.Common.{◌≡◌, map, drop}
use Rattle.std.specs.List.{list_all}
use Rattle.prog_tree.specs.Tree.{clause_tree, test_tree}
use Rattle.prog_check.specs.Names.{is_among}
use Rattle.prog_check.specs.Uses.{test_names}
use Rattle.prog_check.proofs.uses.knows_test.Given as goal

-- the clauses that are left decide
abbrev pub invariant-loop-clause : goal.invariant-loop-clause
invariant-loop-clause l =
    list_all (is_among l.known) (test_names (map clause_tree (drop l.clause-index l.clause-items))) ≡ list_all (is_among l.known) (test_names (test_tree l.test))
