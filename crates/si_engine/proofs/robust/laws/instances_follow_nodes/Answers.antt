use Rattle.si_engine.proofs.NodeLaws.{law_of_nodes}
use Rattle.si_engine.proofs.robust.laws.instances_follow_nodes.Goals as goal

pub returns : goal.returns
returns c = law_of_nodes
