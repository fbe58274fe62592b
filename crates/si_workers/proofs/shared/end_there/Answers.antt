use Rattle.si_workers.proofs.SharedLaws.{end-answered}
use Rattle.si_workers.proofs.shared.end_there.Goals as goal

pub returns : goal.returns
returns c = end-answered _ _ _ _ _ c.end.ensures.ok c.end.ensures.err
