-- How many endings of a book, and how many jobs, came to the same.
use Rattle.std.specs.Prelude.{ℕ, ◌==◌, Bool, false, ◌&&◌, List, Option, Some, None, count_by, sum_by, if◌then◌else◌}
use Rattle.prog_tree.specs.declared.deed.Cause.{Cause}
use Rattle.version_store.specs.declared.clash.Clash.{Clash}
use Rattle.history_book.specs.declared.instances.row.Ending.{Ending}
use Rattle.history_book.specs.declared.instances.row.Ending.TheVariants as ending
use Rattle.job_list.specs.declared.job.Job.{Job}
use Rattle.job_list.specs.declared.job.JobEnd.{JobEnd}
use Rattle.job_list.specs.declared.job.JobEnd.TheVariants as end
use Rattle.job_list.specs.declared.job.JobOutcome.{JobOutcome}
use Rattle.si_engine.specs.Headline.{Call}
use Rattle.si_workers.specs.Calls.{call_of, called_in, is_same_call, is_same_cause, is_same_clash}

-- each job with what was told of it: its outcome, where there is exactly one
abbrev pub Tidings : Type 0
Tidings = List (Job × Option JobOutcome)

-- ---- endings of a book

-- the call aborted by the cause
abbrev pub is_abort : Call → Cause → Ending → Bool
is_abort call cause (ending.Aborted row by) = is_same_call call (called_in row) && is_same_cause cause by
is_abort call cause other = false

-- the call clashed
abbrev pub is_clash_of : Call → Ending → Bool
is_clash_of call (ending.Clashed row clash) = is_same_call call (called_in row)
is_clash_of call other = false

-- the call clashed so
abbrev pub is_clash_on : Call → Clash → Ending → Bool
is_clash_on call clash (ending.Clashed row on) = is_same_call call (called_in row) && is_same_clash clash on
is_clash_on call clash other = false

abbrev pub aborts_kept : Call → Cause → List Ending → ℕ
aborts_kept call cause = count_by (is_abort call cause)

abbrev pub clashes_kept : Call → List Ending → ℕ
clashes_kept call = count_by (is_clash_of call)

abbrev pub clashes_on : Call → Clash → List Ending → ℕ
clashes_on call clash = count_by (is_clash_on call clash)

-- ---- outcomes of jobs

-- the end is the commit of the number
abbrev pub is_commit : ℕ → JobEnd → Bool
is_commit number (end.Committed n replies) = number == n
is_commit number other = false

-- the end is an abort by the cause
abbrev pub is_aborted_by : Cause → JobEnd → Bool
is_aborted_by cause (end.Aborted by) = is_same_cause cause by
is_aborted_by cause other = false

-- what holds of the one outcome of a job
abbrev pub outcome_passes : (JobEnd → Bool) → Option JobOutcome → Bool
outcome_passes test None = false
outcome_passes test (Some outcome) = test outcome.job_end

-- the outcome names the commit of the number
abbrev pub names : ℕ → Option JobOutcome → Bool
names number = outcome_passes (is_commit number)

-- how many jobs name the commit of a number
abbrev pub commits_told : ℕ → Tidings → ℕ
commits_told number = count_by (λ t. names number t.1)

-- a job of this call aborted by the cause
abbrev pub tells_abort : Call → Cause → Job × Option JobOutcome → Bool
tells_abort call cause t = is_same_call call (call_of t.0) && outcome_passes (is_aborted_by cause) t.1

abbrev pub aborts_told : Call → Cause → Tidings → ℕ
aborts_told call cause = count_by (tells_abort call cause)

-- the tries of a job that clashed
abbrev pub tries_in : Option JobOutcome → ℕ
tries_in None = 0
tries_in (Some outcome) = outcome.clashes

-- those of a job of this call
abbrev pub clashes_of : Call → Job × Option JobOutcome → ℕ
clashes_of call t = if is_same_call call (call_of t.0) then tries_in t.1 else 0

abbrev pub clashes_told : Call → Tidings → ℕ
clashes_told call = sum_by (clashes_of call)
