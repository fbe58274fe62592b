use Rattle.prog_tree.proofs.Elements.{more_yielded}
use Rattle.si_workers.proofs.GatherLaws.{told-worker}
use Rattle.si_workers.proofs.told.all_told.Goals as goal

pub loop-one-preserved : goal.loop-one-preserved
loop-one-preserved c =
    let before = c.loop-one.invariant in
    record {
      all = more_yielded c.loop-one.yielded _ _ _ c.in-Some.one before.all c.in-Some.ensures.steps.0;
      told = told-worker _ _ _ c.loop-one.yielded c.in-Some.one before.told c.tell_all.ensures;
    }
