use Rattle.si_engine.proofs.EdgeLaws.{law_of_static_edges}
use Rattle.si_engine.proofs.robust.laws.dependencies_are_static_edges.Goals as goal

pub returns : goal.returns
returns c = law_of_static_edges
