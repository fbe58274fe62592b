use Rattle.std.proofs.Common.{◌≡◌}
use Rattle.job_counter.specs.Passes.{counter_of, left_of}
use Rattle.analysis_tests.proofs.counter_tests.drawn.Given as goal

abbrev pub invariant-loop-number : goal.invariant-loop-number
invariant-loop-number l = counter_of l.pass ≡ counter_of l.fn.pass

abbrev pub decreases-loop-number : goal.decreases-loop-number
decreases-loop-number l = left_of l.pass
