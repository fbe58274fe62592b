-- What comes of work, by what its workers did.
use Rattle.std.specs.Prelude.{◌≡◌, ℕ, ◌<◌, ◌≤◌, ◌⊎◌, Bool, false, List, length, map, flat_map, Option, Some, None, Result, Ok, Err}
use Rattle.std.specs.List.{list_any}
use Rattle.serial_orders.specs.Orders.{least_order}
use Rattle.history_book.specs.View.{BookView, FitsBook, depends_in}
use Rattle.si_workers.specs.Assigned.{Assigned}
use Rattle.si_workers.specs.KeptAndTold.{Tidings}
use Rattle.si_workers.specs.Outcomes.{Correspond, IsBroken, IsOver}
use Rattle.si_workers.specs.Told.{AreTold}
use Rattle.si_workers.specs.Work.{jobs_by, outcome_at}
use Rattle.si_workers.specs.declared.fault.WorkFault.{WorkFault}
use Rattle.si_workers.specs.declared.fault.WorkFault.TheVariants.{NoThread, Broken, Memory}
use Rattle.job_list.specs.declared.job.Job.{Job}
use Rattle.job_list.specs.declared.job.JobOutcome.{JobOutcome}
use Rattle.si_workers.specs.declared.run.Compared.{Compared}
use Rattle.si_workers.specs.declared.run.Compared.TheVariants as compared
use Rattle.si_workers.specs.declared.run.Finished.{Finished}
use Rattle.si_workers.specs.declared.run.Worked.{Worked}
use Rattle.job_worker.specs.declared.worker.Done.{Done}

-- memory ran out in some worker
abbrev pub lack_memory : List Done → Bool
lack_memory = list_any (λ one. one.no_memory)

-- what the workers told of the jobs that were done
abbrev pub AreToldBy : List Job → List Done → Tidings → Type 0
AreToldBy jobs done = AreTold (jobs_by (length done) jobs) (flat_map (λ one. one.reports.items) done)

-- of each job there is one outcome
abbrev pub AreOutcomesIn : Tidings → List JobOutcome → Type 0
AreOutcomesIn ts outcomes = map (λ t. t.1) ts ≡ map Some outcomes

-- what is told corresponds to the book and is one outcome of each job, or the job is named that is broken
abbrev pub IsCompared : Assigned → Tidings → BookView → Compared → Type 0
IsCompared given ts v (compared.Correspond outcomes) = Correspond given ts v × AreOutcomesIn ts outcomes.items
IsCompared given ts v (compared.Broken job outcome) = IsBroken given ts v job × (outcome ≡ outcome_at ts job)

-- no worker lacked memory, and what they told compares so with the book
pub record IsWorkCompared (given : Assigned) (jobs : List Job) (done : List Done) (v : BookView) (c : Compared) : Type 0
  where
    pub enough : lack_memory done ≡ false
    pub ts : Tidings
    pub told : AreToldBy jobs done ts
    pub compared : IsCompared given ts v c

-- outcomes and book are handed out, where enough workers started
abbrev pub IsConcluded : (workers started : ℕ) → List JobOutcome → BookView → Result Worked WorkFault → Type 0
IsConcluded workers started outcomes v (Ok worked) =
    (workers ≤ started) × (worked.outcomes ≡ outcomes) × (worked.book ≡ v)
IsConcluded workers started outcomes v (Err (NoThread number told book)) =
    (started < workers) × (number ≡ started) × (told ≡ outcomes) × (book ≡ v)
IsConcluded workers started outcomes v (Err other) = ⊥

-- the outcomes that the workers told correspond to the book
pub record AreToldRight (given : Assigned) (jobs : List Job) (done : List Done) (v : BookView) (outcomes : List JobOutcome) : Type 0
  where
    pub ts : Tidings
    pub told : AreToldBy jobs done ts
    pub one_each : AreOutcomesIn ts outcomes
    pub correspond : Correspond given ts v

-- what the workers told does not, and this job is named with its outcome
pub record AreToldWrong (given : Assigned) (jobs : List Job) (done : List Done) (v : BookView) (job : ℕ) (outcome : Option JobOutcome) : Type 0
  where
    pub ts : Tidings
    pub told : AreToldBy jobs done ts
    pub broken : IsBroken given ts v job
    pub its_outcome : outcome ≡ outcome_at ts job

-- the book is handed out as it is where it was opened with the set and the rows that were given, and else none
abbrev pub IsHandedOut : Assigned → BookView → Option BookView → Type 0
IsHandedOut given v book = (IsOver given v × (book ≡ Some v)) ⊎ ((IsOver given v → ⊥) × (book ≡ None))

-- Memory goes before Broken, and Broken before NoThread; the book is handed out as it is
abbrev pub IsSettled : Assigned → List Job → List Done → BookView → Result Worked WorkFault → Type 0
IsSettled given jobs done v (Ok worked) =
    (lack_memory done ≡ false) × (given.workers ≤ length done) × (worked.book ≡ v)
    × AreToldRight given jobs done v worked.outcomes
IsSettled given jobs done v (Err (NoThread started outcomes book)) =
    (lack_memory done ≡ false) × (started ≡ length done) × (started < given.workers) × (book ≡ v)
    × AreToldRight given jobs done v outcomes
IsSettled given jobs done v (Err (Broken job outcome book)) =
    (lack_memory done ≡ false) × (book ≡ v) × AreToldWrong given jobs done v job outcome
IsSettled given jobs done v (Err (Memory book)) = IsHandedOut given v book
IsSettled given jobs done v (Err other) = ⊥

-- the order is the least, and fits
pub record IsOrderOf (v : BookView) (order : List ℕ) : Type 0 where
  pub least : least_order (depends_in v) (length v.rows) ≡ Some order
  pub fits : FitsBook v order

-- outcomes and book are those of the work, in the order of its commits; where memory runs out the book is handed out
abbrev pub IsPutInOrder : Worked → Result Finished WorkFault → Type 0
IsPutInOrder worked (Ok finished) =
    (finished.outcomes ≡ worked.outcomes) × (finished.book ≡ worked.book) × IsOrderOf worked.book finished.order
IsPutInOrder worked (Err (Memory book)) = book ≡ Some worked.book
IsPutInOrder worked (Err other) = ⊥
