use Rattle.si_workers.proofs.TallyLemmas.{IsAsCovered}
use Rattle.si_workers.proofs.tally.Tally.is_covered.Given as goal

abbrev pub invariant-loop-key : goal.invariant-loop-key
invariant-loop-key g l = IsAsCovered g.K.Ord.cmp l.key-iterator l.self l.other
