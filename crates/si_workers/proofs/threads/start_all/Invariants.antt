use Rattle.std.proofs.Common.{◌≡◌, ◌≤◌, ◌*◌, ◌-◌, length}
use Rattle.job_counter.specs.Passes.{counter_of, left_of}
use Rattle.si_workers.proofs.threads.start_all.Given as goal

abbrev pub invariant-loop-worker : goal.invariant-loop-worker
invariant-loop-worker g l = (counter_of l.pass ≡ counter_of l.fn.pass) × ((l.workers - l._worker) * length l.shift.jobs.now ≤ left_of l.pass)
