use Rattle.prog_tree.specs.Tree.{draft_tree}
use Rattle.si_workers.specs.Assigned.{assigned}
use Rattle.si_workers.proofs.RunLaws.{ordered-done, ordered-fault, ordered-order}
use Rattle.si_workers.proofs.run.run_jobs.Goals as goal

pub returns-clause-done : goal.returns-clause-done
returns-clause-done g c =
    let given = assigned c.args.workers (draft_tree c.args.set.now) c.args.opening in
    ordered-done given c.args.jobs.now c.in_ok-worked.worked c.in_order.result c.in_order.ensures c.in_ok-worked.ensures.done

pub returns-clause-order : goal.returns-clause-order
returns-clause-order g c = ordered-order c.in_ok-worked.worked c.in_order.result c.in_order.ensures

pub returns-clause-fault : goal.returns-clause-fault
returns-clause-fault g c =
    let given = assigned c.args.workers (draft_tree c.args.set.now) c.args.opening in
    ordered-fault given c.args.jobs.now c.in_ok-worked.worked c.in_order.result c.in_order.ensures c.in_ok-worked.ensures.done
