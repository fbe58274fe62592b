use Rattle.std.proofs.Common.{◌≡◌, map, take}
use Rattle.prog_tree.specs.Tree.{clause_tree}
use Rattle.prog_tree.proofs.expr.Test.copy.Given as goal

abbrev pub invariant-loop-clause : goal.invariant-loop-clause
invariant-loop-clause l = map clause_tree l.copies.items ≡ map clause_tree (take l.clause-index l.clause-items)
