use Rattle.std.proofs.Common.{◌≡◌, map, take}
use Rattle.prog_tree.specs.Tree.{program_tree}
use Rattle.prog_tree.proofs.program.copy_programs.Given as goal

abbrev pub invariant-loop-program : goal.invariant-loop-program
invariant-loop-program l = map program_tree l.copies.items ≡ map program_tree (take l.program-index l.programs)
