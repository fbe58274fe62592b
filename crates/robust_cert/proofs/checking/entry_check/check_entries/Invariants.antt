use Rattle.robust_cert.specs.Refused.{StandTo}
use Rattle.robust_cert.proofs.checking.entry_check.check_entries.Given as goal

abbrev pub invariant-loop-k : goal.invariant-loop-k
invariant-loop-k l = StandTo l.paths l.certificate l.k
