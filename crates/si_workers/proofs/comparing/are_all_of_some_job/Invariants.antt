use Rattle.std.proofs.Common.{take}
use Rattle.std.specs.List.{All}
use Rattle.si_workers.specs.Outcomes.{IsOfSomeJob}
use Rattle.si_workers.proofs.comparing.are_all_of_some_job.Given as goal

abbrev pub invariant-loop-ending : goal.invariant-loop-ending
invariant-loop-ending l = All (IsOfSomeJob l.counts.tidings) (take l.ending-index l.endings)
