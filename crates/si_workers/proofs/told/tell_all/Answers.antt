use Rattle.std.proofs.Common.{◌≡◌, length, subst, arith}
use Rattle.si_workers.specs.Gathered.{AreToldMore}
use Rattle.prog_tree.proofs.Elements.{all_yielded, more_yielded}
use Rattle.si_workers.proofs.GatherLaws.{told-none, told-both}
use Rattle.si_workers.proofs.told.tell_all.Goals as goal

pub loop-report-init : goal.loop-report-init
loop-report-init c = record { all = c.into_iter-report-iterator.ensures.into_iter_gives.0; told = told-none c.args.told.now.items }

pub loop-report-preserved : goal.loop-report-preserved
loop-report-preserved c =
    let before = c.loop-report.invariant in
    record {
      all = more_yielded c.loop-report.yielded _ _ _ c.in-Some.report before.all c.in-Some.ensures.steps.0;
      told = told-both _ _ _ c.loop-report.yielded _ before.told c.tell.ensures;
    }

pub returns : goal.returns
returns c =
    let before = c.loop-report.invariant in
    let none : length c.loop-report.report-iterator.rest.items ≡ 0 = omega (arith, c.in-None.ensures.steps.0) in
    subst (AreToldMore c.args.told.now.items c.loop-report.told.items) (all_yielded c.loop-report.yielded _ _ before.all none) before.told
