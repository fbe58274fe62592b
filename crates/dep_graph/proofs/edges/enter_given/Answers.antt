use Rattle.dep_graph.proofs.Entering.{Enters-then}
use Rattle.dep_graph.proofs.edges.enter_given.Goals as goal

pub returns-clause-edges : goal.returns-clause-edges
returns-clause-edges c = Enters-then c.args.tables.now.edges c.join_given.new.table c.join_given-2.new.table _ _ c.join_given.ensures.joined c.join_given-2.ensures.joined
