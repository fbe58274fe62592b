use Rattle.std.proofs.Common.{◌≡◌, ◌++◌}
use Rattle.si_workers.specs.Gathered.{AreToldMore}
use Rattle.si_workers.proofs.told.tell_all.Given as goal

abbrev pub invariant-loop-report : goal.invariant-loop-report
invariant-loop-report l = record {
  all : l.yielded ++ l.report-iterator.rest.items ≡ l.fn.reports.items;
  told : AreToldMore l.fn.told.items l.told.items l.yielded;
}
