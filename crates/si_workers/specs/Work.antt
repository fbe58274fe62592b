-- What comes of work.
use Rattle.std.specs.Prelude.{◌≡◌, ℕ, zero, suc, ◌<◌, ◌≤◌, ◌⊎◌, List, [], length, map, Option, slice_get, IfSome}
use Rattle.std.specs.Option.{option_and_then}
use Rattle.history_book.specs.TrueBook.{IsTrueBook}
use Rattle.history_book.specs.View.{BookView}
use Rattle.si_workers.specs.Assigned.{Assigned}
use Rattle.si_workers.specs.KeptAndTold.{Tidings}
use Rattle.si_workers.specs.Limits.{most_workers}
use Rattle.si_workers.specs.Outcomes.{OutcomesCorrespond, IsBroken, IsOver}
use Rattle.si_workers.specs.declared.fault.WorkFault.{WorkFault}
use Rattle.si_workers.specs.declared.fault.WorkFault.TheVariants as fault
use Rattle.job_list.specs.declared.job.Job.{Job}
use Rattle.job_list.specs.declared.job.JobOutcome.{JobOutcome}
use Rattle.job_worker.specs.Limits.{most_jobs}

-- ---- refusals

-- the outcome where there is exactly one of the job
abbrev pub outcome_at : Tidings → ℕ → Option JobOutcome
outcome_at ts job = option_and_then (λ t. t.1) (slice_get ts job)

-- what is told of some jobs does not correspond to the book, and this job is named with its outcome
pub record IsNamed (given : Assigned) (jobs : List Job) (job : ℕ) (outcome : Option JobOutcome) (v : BookView) : Type 0 where
  pub ts : Tidings
  pub of_jobs : map (λ t. t.0) ts ≡ jobs
  pub broken : IsBroken given ts v job
  pub its_outcome : outcome ≡ outcome_at ts job

-- a number of workers that is refused, and one that is not
abbrev pub IsWrongNumber : ℕ → Type 0
IsWrongNumber workers = (workers ≡ 0) ⊎ (most_workers < workers)

abbrev pub IsRightNumber : ℕ → Type 0
IsRightNumber workers = (0 < workers) × (workers ≤ most_workers)

-- so many jobs are refused
abbrev pub AreTooMany : List Job → Type 0
AreTooMany jobs = most_jobs < length jobs

-- neither the number of workers nor that of the jobs is refused
pub record AreTaken (workers : ℕ) (jobs : List Job) : Type 0 where
  pub number : IsRightNumber workers
  pub few : length jobs ≤ most_jobs

-- the jobs were done, and these outcomes of them correspond to the book, which is a true one
pub record AreDone (given : Assigned) (jobs : List Job) (outcomes : List JobOutcome) (book : BookView) : Type 0 where
  pub taken : AreTaken given.workers jobs
  pub true_book : IsTrueBook book
  pub correspond : OutcomesCorrespond given jobs outcomes book

-- the jobs that were done, where so many threads started
abbrev pub jobs_by : (started : ℕ) → List Job → List Job
jobs_by zero jobs = []
jobs_by (suc n) jobs = jobs

-- a true book, which was opened with the set and the rows that were given
abbrev pub IsTrueOver : Assigned → BookView → Type 0
IsTrueOver given v = IsTrueBook v × IsOver given v

-- why work was refused, or what is wrong with it; a book that is handed out is a true book
abbrev pub IsWorkFault : Assigned → List Job → WorkFault → Type 0
IsWorkFault given jobs fault.Workers = IsWrongNumber given.workers
IsWorkFault given jobs fault.TooManyJobs = IsRightNumber given.workers × AreTooMany jobs
IsWorkFault given jobs (fault.NoThread started outcomes book) =
    AreTaken given.workers jobs × IsTrueBook book × (started < given.workers)
    × OutcomesCorrespond given (jobs_by started jobs) outcomes book
IsWorkFault given jobs (fault.Broken job outcome book) =
    AreTaken given.workers jobs × IsTrueBook book × (started : ℕ)
    × IsNamed given (jobs_by started jobs) job outcome book
IsWorkFault given jobs (fault.Memory book) = AreTaken given.workers jobs × IfSome book (IsTrueOver given)
