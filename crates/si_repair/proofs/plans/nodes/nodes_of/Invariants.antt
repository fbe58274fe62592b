use Rattle.si_repair.proofs.Searching.{AreNodesBelow}
use Rattle.si_repair.proofs.plans.nodes.nodes_of.Given as goal

abbrev pub invariant-loop-x : goal.invariant-loop-x
invariant-loop-x l = AreNodesBelow l.paths l.program l.x l.nodes.items
