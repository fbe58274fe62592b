use Rattle.std.proofs.Common.{◌≡◌, ◌++◌, map, Some}
use Rattle.si_workers.proofs.run.into_outcomes.Given as goal

abbrev pub invariant-loop-tiding : goal.invariant-loop-tiding
invariant-loop-tiding l = record {
  all : l.yielded ++ l.tiding-iterator.rest.items ≡ l.fn.tidings.items;
  one_each : map (λ t. t.1) l.yielded ≡ map Some l.outcomes.items;
}
