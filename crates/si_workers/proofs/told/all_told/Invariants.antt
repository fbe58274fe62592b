use Rattle.std.proofs.Common.{◌≡◌, ◌++◌, map, flat_map}
use Rattle.si_workers.specs.Gathered.{AreToldMore}
use Rattle.si_workers.specs.declared.told.ToldOfJob.TheVariants.{Nothing}
use Rattle.si_workers.proofs.told.all_told.Given as goal

abbrev pub invariant-loop-one : goal.invariant-loop-one
invariant-loop-one l = record {
  all : l.yielded ++ l.one-iterator.rest.items ≡ l.fn.done.items;
  told : AreToldMore (map (λ job. Nothing) l.jobs) l.told.items (flat_map (λ one. one.reports.items) l.yielded);
}
