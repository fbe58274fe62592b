use Rattle.std.proofs.Common.{map, drop}
use Rattle.std.specs.List.{AllByRecursion}
use Rattle.prog_tree.specs.Tree.{program_tree, draft_tree}
use Rattle.prog_tree.specs.Literals.{HasI64Literals}
use Rattle.prog_check.proofs.literals.read_literals.Given as goal

-- the programs that are left decide
abbrev pub invariant-loop-program : goal.invariant-loop-program
invariant-loop-program l = AllByRecursion HasI64Literals (map program_tree (drop l.program-index l.program-items)) → AllByRecursion HasI64Literals (draft_tree l.draft).programs
