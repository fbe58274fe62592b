use Rattle.std.proofs.Common.{◌≡◌, ◌∙◌, List, ℕ, Ok, ap, refl, subst}
use Rattle.std.proofs.lemmas.Result.{err_from_is_err_and}
use Rattle.prog_tree.specs.declared.program.Draft.{Draft}
use Rattle.prog_tree.specs.Tree.{draft_tree}
use Rattle.job_list.specs.declared.job.Job.{Job}
use Rattle.job_list.specs.declared.job.JobOutcome.{JobOutcome}
use Rattle.si_workers.specs.Assigned.{assigned}
use Rattle.job_list.specs.JobLines.{jobs_of}
use Rattle.si_workers.specs.Work.{AreDone, IsWorkFault}
use Rattle.sirob.specs.Stops.{IsFaultOfJobs}
use Rattle.sirob.specs.Work.{work_text}
use Rattle.sirob.proofs.StopLaws.{fault_of_lines}
use Rattle.sirob.proofs.commands.work.work_verified.Goals as goal

pub returns-in_err-rows-clause-err : goal.returns-in_err-rows-clause-err
returns-in_err-rows-clause-err g c =
    let exit = err_from_is_err_and c.from_residual.result c.from_residual.ensures.1 in
    let part = c.args.part.now in
    let f = c.in_err-rows.field-0.0 in
    rw (exit.1, exit.2)
    (λ no_memory. fault_of_lines c.args.workers (draft_tree c.args.set.now) part f c.requires
    (subst (λ (set : Draft). IsFaultOfJobs (draft_tree set) part f) c.set.ensures.same (c.in_err-rows.ensures.err no_memory)))

pub returns-in_err-outcomes-clause-err : goal.returns-in_err-outcomes-clause-err
returns-in_err-outcomes-clause-err g c =
    let exit = err_from_is_err_and c.from_residual-in_err-outcomes.result c.from_residual-in_err-outcomes.ensures.1 in
    let set = draft_tree c.args.set.now in
    let part = c.args.part.now in
    let list = c.in_ok-rows.field-0 in
    let f = c.in_err-outcomes.field-0.0 in
    let read = subst (λ (s : Draft). jobs_of (draft_tree s) part ≡ Ok list) c.set.ensures.same c.in_ok-rows.ensures.ok in
    let by_so_many = subst (λ (n : ℕ). IsWorkFault (assigned n set list.rows) c.as_slice.result.now f) c.from.ensures c.in_err-outcomes.ensures.fault in
    let wrong = subst (λ (jobs : List Job). IsWorkFault (assigned c.args.workers set list.rows) jobs f) c.as_slice.ensures by_so_many in
    rw (exit.1, exit.2) (λ no_memory. (
      c.args.workers,
      refl,
      record {
        robust = c.requires;
        list = list;
        read = read;
        f = f;
        wrong = wrong;
        named = refl;
      },
    ))

pub returns-in_err-text-clause-err : goal.returns-in_err-text-clause-err
returns-in_err-text-clause-err g c =
    let exit = err_from_is_err_and c.from_residual-in_err-text.result c.from_residual-in_err-text.ensures.1 in
    rw (exit.1, exit.2) (λ no_memory. absurd (cc))

pub returns-clause-ok : goal.returns-clause-ok
returns-clause-ok g c =
    let set = draft_tree c.args.set.now in
    let part = c.args.part.now in
    let list = c.in_ok-rows.field-0 in
    let finished = c.in_ok-outcomes.field-0 in
    let done = subst (λ (n : ℕ). AreDone (assigned n set list.rows) c.as_slice.result.now finished.outcomes finished.book) c.from.ensures c.in_ok-outcomes.ensures.done in
    record {
      list = list;
      read = subst (λ (s : Draft). jobs_of (draft_tree s) part ≡ Ok list) c.set.ensures.same c.in_ok-rows.ensures.ok;
      outcomes = finished.outcomes;
      book = finished.book;
      done = subst (λ (jobs : List Job). AreDone (assigned c.args.workers set list.rows) jobs finished.outcomes finished.book) c.as_slice.ensures done;
      text = c.in_ok-text.ensures ∙ ap (λ (outcomes : List JobOutcome). work_text outcomes finished.book) c.as_slice-2.ensures;
    }
