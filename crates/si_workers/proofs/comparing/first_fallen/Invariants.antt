use Rattle.std.proofs.Common.{take}
use Rattle.std.specs.List.{All}
use Rattle.si_workers.specs.Outcomes.{Stands}
use Rattle.si_workers.proofs.comparing.first_fallen.Given as goal

abbrev pub invariant-loop-job : goal.invariant-loop-job
invariant-loop-job l = All (Stands l.workers l.book l.counts.tidings) (take l.job l.tidings)
