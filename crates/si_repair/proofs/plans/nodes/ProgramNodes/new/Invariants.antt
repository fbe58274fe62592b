use Rattle.std.proofs.Common.{◌≡◌, length}
use Rattle.si_repair.specs.Planning.{AreListedBy}
use Rattle.si_repair.proofs.plans.nodes.ProgramNodes.new.Given as goal

-- the nodes of the programs so far
abbrev pub invariant-loop-program : goal.invariant-loop-program
invariant-loop-program l = record {
  long : length l.lists.items ≡ l.program;
  listed : AreListedBy l.paths l.lists.items;
}
