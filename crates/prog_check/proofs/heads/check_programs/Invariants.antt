use Rattle.std.proofs.Common.{◌≡◌, [], ◌++◌, map, drop}
use Rattle.prog_tree.specs.Tree.{program_tree}
use Rattle.prog_check.specs.Faults.{programs_fault}
use Rattle.prog_check.proofs.heads.check_programs.Given as goal

-- the programs that are left have the first fault of all
abbrev pub invariant-loop-program : goal.invariant-loop-program
invariant-loop-program l = record {
  named : l.earlier ++ map (λ p. p.name) (drop l.program-index l.programs) ≡ map (λ p. p.name) l.programs;
  fault : programs_fault l.tables l.earlier (map program_tree (drop l.program-index l.programs)) ≡ programs_fault l.tables [] (map program_tree l.programs);
}
