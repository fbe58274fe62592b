-- What workers tell of jobs.
use Rattle.std.specs.Prelude.{◌≡◌, ℕ, ◌==◌, List, [], ◌∷◌, flat_map, map, Option, Some, None, slice_get, if◌then◌else◌}
use Rattle.si_workers.specs.KeptAndTold.{Tidings}
use Rattle.job_list.specs.declared.job.Job.{Job}
use Rattle.job_list.specs.declared.job.JobOutcome.{JobOutcome}
use Rattle.job_worker.specs.Work.{Report}

-- what was reported of a job
abbrev pub outcomes_of : ℕ → List Report → List JobOutcome
outcomes_of k = flat_map (λ r. if r.0 == k then r.1 ∷ [] else [])

-- the outcome, where there is exactly one
abbrev pub only : List JobOutcome → Option JobOutcome
only [] = None
only (outcome ∷ []) = Some outcome
only (outcome ∷ more ∷ rest) = None

-- of each job, what the reports tell of it
pub record AreTold (jobs : List Job) (reports : List Report) (ts : Tidings) : Type 0 where
  pub of_jobs : map (λ t. t.0) ts ≡ jobs
  pub each :
      (k : ℕ) (t : Job × Option JobOutcome) → slice_get ts k ≡ Some t →
      t.1 ≡ only (outcomes_of k reports)
