use Rattle.std.proofs.Common.{◌≡◌, ℕ, false, length, List, flat_map, subst, rules, arith}
use Rattle.std.proofs.lemmas.Result.{IfOk-weaker}
use Rattle.si_workers.specs.Assigned.{assigned_by}
use Rattle.si_workers.specs.Settled.{IsCompared, IsWorkCompared, lack_memory}
use Rattle.si_workers.specs.Told.{AreTold}
use Rattle.si_workers.specs.Work.{jobs_by}
use Rattle.job_list.specs.declared.job.Job.{Job}
use Rattle.si_workers.proofs.run.compare_work.Goals as goal

pub returns : goal.returns
returns c =
    let given = assigned_by c.args.given in
    let jobs = c.args.jobs.now in
    let done = c.args.done.items in
    let v = c.args.book.now in
    let tidings = c.in_ok-tidings.tidings.items in
    let started : c.len.result ≡ length done = omega (arith, c.len.ensures, c.args.done.ok.0) in
    let enough : lack_memory done ≡ false = search rules in
    let told : AreTold (jobs_by (length done) jobs) (flat_map (λ one. one.reports.items) done) tidings =
    subst (λ (js : List Job). AreTold js (flat_map (λ one. one.reports.items) done) tidings)
    (subst (λ (n : ℕ). c.jobs_by.result.now ≡ jobs_by n jobs) started c.jobs_by.ensures) c.in_ok-tidings.ensures in
    IfOk-weaker c.compare.result (IsCompared given tidings v) (IsWorkCompared given jobs done v)
    (λ compared is. record { enough = enough; ts = tidings; told = told; compared = is }) c.compare.ensures
