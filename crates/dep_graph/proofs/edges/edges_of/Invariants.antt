use Rattle.std.proofs.Common.{length, take}
use Rattle.dep_graph.specs.Edges.{HaveNodes}
use Rattle.dep_graph.proofs.Entering.{GiveAnswers}
use Rattle.dep_graph.proofs.edges.edges_of.Given as goal

-- the tables give what the answers before give
abbrev pub invariant-loop-n : goal.invariant-loop-n
invariant-loop-n l = record {
  given : GiveAnswers l.tables (length l.table.paths) (take l.n l.table.answers);
  nodes : HaveNodes l.tables (length l.set);
}
