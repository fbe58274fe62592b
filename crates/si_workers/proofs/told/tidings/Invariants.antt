use Rattle.std.proofs.Common.{◌≡◌, ◌++◌, length, map, take}
use Rattle.si_workers.specs.Gathered.{outcome_in}
use Rattle.si_workers.proofs.told.tidings.Given as goal

abbrev pub invariant-loop-one : goal.invariant-loop-one
invariant-loop-one l = record {
  all : l.yielded ++ l.one-iterator.rest.items ≡ l.fn.told.items;
  jobs : map (λ t. t.0) l.tidings.items ≡ take (length l.yielded) l.jobs;
  told : map (λ t. t.1) l.tidings.items ≡ map outcome_in l.yielded;
}
