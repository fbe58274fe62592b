use Rattle.si_workers.proofs.BegunLaws.{begun-active, begun-withdrawn}
use Rattle.si_workers.proofs.shared.begin_seeing.Goals as goal

pub unreachable-requires : goal.unreachable-requires
unreachable-requires c =
    begun-active _ _ _ _ _ c.commits-commits.ensures.true_book c.in-Ok.ensures.begun c.in-Ok.ensures.ticket c.in_default.ensures.0

pub returns-then-commits-number-clause-step : goal.returns-then-commits-number-clause-step
returns-then-commits-number-clause-step c = (
  c.in-Ok.ensures.refused,
  c.commits-commits.ensures.count,
  begun-withdrawn _ _ _ _ _ _ c.commits-commits.ensures.true_book c.in-Ok.ensures.begun c.in-Ok.ensures.ticket c.in-Ok-withdraw.ensures.1,
)
