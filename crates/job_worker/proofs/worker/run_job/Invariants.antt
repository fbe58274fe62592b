use Rattle.std.proofs.Common.{◌≡◌, ◌+◌, ◌<◌}
use Rattle.job_worker.proofs.worker.run_job.Given as goal

abbrev pub invariant-loop-clashes : goal.invariant-loop-clashes
invariant-loop-clashes g l = record {
  ended : g.D.Desk.ended l.desk ≡ g.D.Desk.ended l.initial.desk + l.clashes;
  left : l.clashes < l.tries;
}
