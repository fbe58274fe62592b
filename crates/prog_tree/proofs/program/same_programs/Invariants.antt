use Rattle.std.proofs.Common.{◌≡◌, ◌↔◌, length, map}
use Rattle.prog_tree.specs.Tree.{program_tree}
use Rattle.prog_tree.proofs.program.same_programs.Given as goal

-- as many programs are left in both, and they mean the same exactly where all do
abbrev pub invariant-loop-program : goal.invariant-loop-program
invariant-loop-program l = record {
  length : length l.program-iterator.a.rest.now ≡ length l.program-iterator.b.rest.now;
  rest : (map program_tree l.program-iterator.a.rest.now ≡ map program_tree l.program-iterator.b.rest.now)
      ↔ (map program_tree l.programs ≡ map program_tree l.others);
}
