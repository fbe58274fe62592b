-- What was told of jobs, as reports come in.
use Rattle.std.specs.Prelude.{◌≡◌, ℕ, List, [], ◌∷◌, Option, Some, None, slice_get}
use Rattle.std.specs.Option.{option_map}
use Rattle.job_list.specs.declared.job.JobOutcome.{JobOutcome}
use Rattle.si_workers.specs.declared.told.ToldOfJob.{ToldOfJob}
use Rattle.si_workers.specs.declared.told.ToldOfJob.TheVariants.{Nothing, Once, Often}
use Rattle.si_workers.specs.Told.{outcomes_of}
use Rattle.job_worker.specs.Work.{Report}

-- one more outcome was told
abbrev pub with_one : ToldOfJob → JobOutcome → ToldOfJob
with_one Nothing outcome = Once outcome
with_one (Once first) outcome = Often
with_one Often outcome = Often

-- more outcomes were told
abbrev pub with_all : List JobOutcome → ToldOfJob → ToldOfJob
with_all [] t = t
with_all (outcome ∷ more) t = with_all more (with_one t outcome)

-- the outcome, where there is exactly one
abbrev pub outcome_in : ToldOfJob → Option JobOutcome
outcome_in Nothing = None
outcome_in (Once outcome) = Some outcome
outcome_in Often = None

-- of each job the outcomes that the reports have of it were told
abbrev pub AreToldMore : (before after : List ToldOfJob) → List Report → Type 0
AreToldMore before after reports =
    (k : ℕ) → slice_get after k ≡ option_map (with_all (outcomes_of k reports)) (slice_get before k)
