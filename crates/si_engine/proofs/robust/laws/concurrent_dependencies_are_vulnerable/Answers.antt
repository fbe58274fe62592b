use Rattle.si_engine.proofs.VulnerableLaws.{law_of_vulnerable_edges}
use Rattle.si_engine.proofs.robust.laws.concurrent_dependencies_are_vulnerable.Goals as goal

pub returns : goal.returns
returns c = law_of_vulnerable_edges
