use Rattle.si_workers.proofs.SharedLaws.{withdrawn-back}
use Rattle.si_workers.proofs.shared.withdraw_there.Goals as goal

pub returns : goal.returns
returns c = withdrawn-back _ _ _ _ c.withdraw.ensures
