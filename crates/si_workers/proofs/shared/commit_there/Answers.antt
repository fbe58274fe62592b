use Rattle.si_workers.proofs.SharedLaws.{commit-answered}
use Rattle.si_workers.proofs.shared.commit_there.Goals as goal

pub returns : goal.returns
returns c = commit-answered _ _ _ _ _ c.commit.ensures.ok c.commit.ensures.err
