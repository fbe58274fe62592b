use Rattle.std.proofs.Common.{◌≡◌, arith}
use Rattle.std.specs.Prelude.{IfOk, IfErr}
use Rattle.prog_tree.specs.Tree.{draft_tree}
use Rattle.si_workers.specs.Assigned.{assigned}
use Rattle.si_workers.specs.Work.{AreTaken, AreDone, IsWorkFault}
use Rattle.si_workers.proofs.RunLaws.{promised, safe-work, same-given}
use Rattle.si_workers.proofs.run.do_jobs.Given.{Over}
use Rattle.si_workers.proofs.run.do_jobs.Goals as goal
use Rattle.si_workers.proofs.run.do_jobs.Goals.{After-run_logged-ran, After-settle}

-- the jobs are taken, and the book is compared with what was given
as_given :
    (g : Over) (c : After-run_logged-ran g) →
    (assigned c.args.workers (draft_tree c.set-programs.result.now) c.in-Ok.kept ≡ assigned c.args.workers (draft_tree c.args.set.now) c.args.opening)
    × AreTaken c.args.workers c.args.jobs.now
as_given g c = (
  same-given c.args.workers c.set-programs.result.now c.args.set.now c.in-Ok.kept c.args.opening c.set-programs.ensures.same c.in-Ok.ensures,
  record {
    number = (omega (arith, c.if-workers-eq0.false), omega (arith, c.if-workers-gt-MAX_WORKERS.false));
    few = omega (arith, c.if-jobs-gt-MAX_JOBS.false);
  },
)

-- what is promised of the work that was settled
settled :
    (g : Over) (c : After-settle g) →
    IfOk c.settle.result (λ worked. AreDone (assigned c.args.workers (draft_tree c.args.set.now) c.args.opening) c.args.jobs.now worked.outcomes worked.book)
    × IfErr c.settle.result (IsWorkFault (assigned c.args.workers (draft_tree c.args.set.now) c.args.opening) c.args.jobs.now)
settled g c =
    let given = assigned c.args.workers (draft_tree c.args.set.now) c.args.opening in
    let taken = as_given g c.before.before in
    promised _ given c.args.jobs.now c.in-Ok-ran.done.items _ c.settle.result taken.0 taken.1 c.run_logged-ran.ensures c.settle.ensures

pub returns-clause-fault : goal.returns-clause-fault
returns-clause-fault g c = (settled g (goal.at.returns-clause-fault g c).After-settle).1

pub returns-clause-done : goal.returns-clause-done
returns-clause-done g c = (settled g (goal.at.returns-clause-done g c).After-settle).0

pub returns-clause-safe : goal.returns-clause-safe
returns-clause-safe g c =
    let given = assigned c.args.workers (draft_tree c.args.set.now) c.args.opening in
    safe-work given c.args.jobs.now c.settle.result c.set-programs.ensures.safe (settled g (goal.at.returns-clause-safe g c).After-settle).0
