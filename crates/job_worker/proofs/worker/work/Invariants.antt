use Rattle.std.proofs.Common.{◌≡◌, ◌≤◌, ◌*◌, ◌^◌, map}
use Rattle.job_counter.specs.Passes.{counter_of, numbers_of}
use Rattle.job_worker.proofs.worker.work.Given as goal

abbrev pub invariant-loop-turn : goal.invariant-loop-turn
invariant-loop-turn g l = record {
  counter : counter_of l.pass ≡ counter_of l.fn.pass;
  drawn : map (λ r. r.0) l.reports.items ≡ numbers_of l.pass;
  ended : g.D.Desk.ended l.desk ≤ l._turn * 2 ^ 32;
}
