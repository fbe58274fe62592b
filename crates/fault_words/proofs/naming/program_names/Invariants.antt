use Rattle.std.proofs.Common.{◌≡◌, map, take}
use Rattle.prog_tree.specs.Syntax.{ProgramTree}
use Rattle.prog_tree.specs.Tree.{program_tree}
use Rattle.fault_words.proofs.naming.program_names.Given as goal

-- the names of the programs so far
abbrev pub invariant-loop-program : goal.invariant-loop-program
invariant-loop-program l =
    map (λ name. name.now) l.names.items ≡ map (λ (p : ProgramTree). p.name) (map program_tree (take l.program-index l.draft.programs.items))
