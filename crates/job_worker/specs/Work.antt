-- What a worker does.
use Rattle.std.specs.Prelude.{◌≡◌, ⊤, ℕ, ◌+◌, ◌≤◌, ℤ, List, [], ◌∷◌, ◌++◌, length, map, take, Option, Some, None, Result, Ok, Err, slice_get}
use Rattle.std.specs.Option.{IsSomeAnd}
use Rattle.prog_tree.specs.declared.deed.Cause.{Cause}
use Rattle.job_list.specs.declared.job.Job.{Job}
use Rattle.job_list.specs.declared.job.JobEnd.{JobEnd}
use Rattle.job_list.specs.declared.job.JobEnd.TheVariants as end
use Rattle.job_list.specs.declared.job.JobOutcome.{JobOutcome}
use Rattle.job_worker.specs.LastAnswer.{IsLastAnswer}
use Rattle.job_worker.specs.declared.desk.Answer.{Answer}
use Rattle.job_worker.specs.declared.stop.Stop.{Stop}

-- a job by its number, and its outcome
abbrev pub Report : Type 0
Report = ℕ × JobOutcome

-- a job that ends in a clash clashed in each try, and another at most as often as it may be begun anew
abbrev pub AreRightTries : (retries clashes : ℕ) → JobEnd → Type 0
AreRightTries retries clashes (end.Clashed clash) = clashes ≡ retries + 1
AreRightTries retries clashes other = clashes ≤ retries

-- a commit has these replies
abbrev pub HasReplies : List ℤ → JobEnd → Type 0
HasReplies replies (end.Committed number told) = told ≡ replies
HasReplies replies other = ⊤

-- an abort has this cause
abbrev pub HasCause : Cause → JobEnd → Type 0
HasCause cause (end.Aborted told) = told ≡ cause
HasCause cause other = ⊤

-- how many instances a job ended beside those of its tries that clashed
abbrev pub last_try : JobEnd → ℕ
last_try (end.Clashed clash) = 0
last_try (end.Refused why) = 0
last_try other = 1

-- a job has as many tries as its outcome says, and ended just so many instances; without an outcome it ended at most
-- as many as it may be begun anew
abbrev pub TellsTries : Job → (before after : ℕ) → Result JobOutcome Stop → Type 0
TellsTries job before after (Ok outcome) =
    AreRightTries job.retries outcome.clashes outcome.job_end
    × (after ≡ before + outcome.clashes + last_try outcome.job_end)
TellsTries job before after (Err stop) = after ≤ before + job.retries

-- the outcome is of a run of the job: of as many tries as it says, the last of which ended so
abbrev pub IsOutcomeOf : (before after : ℕ) → (last : Option Answer) → JobOutcome → Job → Type 0
IsOutcomeOf before after last outcome job =
    TellsTries job before after (Ok outcome) × IsLastAnswer last outcome.job_end

-- the outcome that is reported is of a run of the job of its number; where no job is drawn no instance ends
abbrev pub IsReported : List Job → (before after : ℕ) → (last : Option Answer) → Result (Option Report) Stop → Type 0
IsReported jobs before after last (Ok (Some report)) =
    IsSomeAnd (slice_get jobs report.0) (IsOutcomeOf before after last report.1)
IsReported jobs before after last (Ok None) = after ≡ before
IsReported jobs before after last (Err stop) = ⊤

-- the number of the job that is reported was drawn; where none is no number is lost
abbrev pub IsDrawn : (before after : List ℕ) → Result (Option Report) Stop → Type 0
IsDrawn before after (Ok (Some report)) = after ≡ before ++ report.0 ∷ []
IsDrawn before after nothing = (more : List ℕ) × (after ≡ before ++ more)

-- the reports are of the first numbers that the pass drew, in their order
abbrev pub AreDrawn : List Report → List ℕ → Type 0
AreDrawn reports numbers = map (λ r. r.0) reports ≡ take (length reports) numbers
