-- What is said of a job that did not commit.
use Rattle.std.specs.Prelude.{ℕ, ℤ, pos, ◌≡◌, ◌-◌, ◌==◌, if◌then◌else◌, List, [], ◌++◌, Option, Some, None, codes, slice_index_or, length, map, slice_get, take}
use Rattle.std.specs.Fmt.{decimal, signed_decimal}
use Rattle.std.specs.List.{range_with_len}
use Rattle.prog_tree.specs.Syntax.{DraftTree, Name}
use Rattle.prog_tree.specs.declared.deed.Cause.{Cause}
use Rattle.prog_tree.specs.declared.deed.Cause.TheVariants.{Asked, Missing, Present, Overflow}
use Rattle.text_places.specs.Listing.{listed}
use Rattle.fault_words.specs.Naming.{cell_text, program_name, program_params}
use Rattle.version_store.specs.declared.clash.Clash.{Clash}
use Rattle.job_list.specs.declared.job.Job.{Job}
use Rattle.job_list.specs.declared.job.JobEnd.{JobEnd}
use Rattle.job_list.specs.declared.job.JobEnd.TheVariants.{Committed, Aborted, Clashed, Refused}
use Rattle.job_list.specs.declared.job.JobOutcome.{JobOutcome}
use Rattle.run_words.specs.BeginReasons.{begin_reason}
use Rattle.run_words.specs.Limits.{most_arguments}

-- an argument with the name of its parameter, as `from = 3`; one that has no parameter stands alone
abbrev pub argument_text : Option Name → ℤ → List ℕ
argument_text None argument = signed_decimal argument
argument_text (Some name) argument = name ++ (codes " = " ++ signed_decimal argument)

-- the argument of a number
abbrev pub argument_at : List Name → List ℤ → (number : ℕ) → List ℕ
argument_at params args number = argument_text (slice_get params number) (slice_index_or args number (pos 0))

-- so many arguments, with commas
abbrev pub arguments_to : List Name → List ℤ → (count : ℕ) → List ℕ
arguments_to params args count = listed (map (argument_at params args) (range_with_len 0 count))

abbrev pub arguments_text : List Name → List ℤ → List ℕ
arguments_text params args = arguments_to params args (length args)

-- that there are so many more
abbrev pub further_arguments : (count : ℕ) → List ℕ
further_arguments count = if count == 0 then [] else codes ", .."

-- the call of a job with its first arguments, as `` `Transfer(from = 3, to = 5, amount = 20)` ``
abbrev pub named_call_text : DraftTree → Job → List ℕ
named_call_text set job =
    codes "`" ++ (program_name set job.program ++ (codes "("
    ++ (arguments_text (program_params set job.program) (take most_arguments job.args)
    ++ (further_arguments (length job.args - most_arguments) ++ codes ")`"))))

-- why an instance aborts
abbrev pub cause_text : DraftTree → Cause → List ℕ
cause_text set Asked = codes "by an `abort;`"
cause_text set (Missing cell) = codes "since " ++ (cell_text set cell ++ codes " is absent there")
cause_text set (Present cell) = codes "since " ++ (cell_text set cell ++ codes " is there already")
cause_text set Overflow = codes "since a result is outside the numbers there are"

abbrev pub tries_text : (tries : ℕ) → List ℕ
tries_text tries = if tries == 1 then codes "try" else codes "tries"

-- how often a job was tried, and with which commit its last try clashed in which cell
abbrev pub clash_text : DraftTree → Clash → (tries : ℕ) → List ℕ
clash_text set clash tries =
    decimal tries ++ (codes " " ++ (tries_text tries ++ (codes "; at the last one commit " ++ (decimal clash.number
    ++ (codes " changed or kept " ++ (cell_text set clash.cell ++ codes " too, unseen by it"))))))

-- why the job did not commit: the refusal of its begin, the abort's cause, or the clash that the outcome tells with its
-- tries; nothing of one that did
abbrev pub reason_of : DraftTree → Job → JobEnd → (tries : ℕ) → List ℕ
reason_of set job (Committed number replies) tries = []
reason_of set job (Aborted cause) tries = cause_text set cause
reason_of set job (Clashed clash) tries = clash_text set clash tries
reason_of set job (Refused fault) tries = begin_reason set job fault

-- the call of the job, and why it did not commit
abbrev pub sentence_of : DraftTree → Job → JobOutcome → List ℕ
sentence_of set job outcome =
    named_call_text set job ++ (codes ", " ++ reason_of set job outcome.job_end outcome.clashes)

-- this is said of the job of a number by its outcome, where there are both
abbrev pub IsJobSentence : DraftTree → List Job → List JobOutcome → (number : ℕ) → (sentence : List ℕ) → Type 0
IsJobSentence set jobs outcomes number sentence =
    (job : Job) (outcome : JobOutcome) → slice_get jobs number ≡ Some job → slice_get outcomes number ≡ Some outcome
    → sentence ≡ sentence_of set job outcome
