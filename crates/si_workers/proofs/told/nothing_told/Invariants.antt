use Rattle.std.proofs.Common.{◌≡◌, map, take}
use Rattle.si_workers.specs.declared.told.ToldOfJob.TheVariants.{Nothing}
use Rattle.si_workers.proofs.told.nothing_told.Given as goal

abbrev pub invariant-loop-job : goal.invariant-loop-job
invariant-loop-job l = l.told.items ≡ map (λ job. Nothing) (take l._job-index l.jobs)
