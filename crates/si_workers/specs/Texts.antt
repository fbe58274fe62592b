-- The texts of faults, and what is told of faults of workers.
use Rattle.std.specs.Fmt.{decimal}
use Rattle.std.specs.Prelude.{ℕ, List, ◌++◌, codes}
use Rattle.history_book.specs.Texts.{begin_fault_text}
use Rattle.si_workers.specs.declared.fault.BeginAfterFault.{BeginAfterFault}
use Rattle.si_workers.specs.declared.fault.BeginAfterFault.TheVariants.{Behind, Refused}
use Rattle.si_workers.specs.declared.fault.WorkFault.{WorkFault}
use Rattle.si_workers.specs.declared.fault.WorkFault.TheVariants as work
use Rattle.si_workers.specs.declared.fault.WorkerFault.{WorkerFault}
use Rattle.si_workers.specs.declared.fault.WorkerFault.TheVariants as told

-- why an instance that has to see a commit could not be begun
abbrev pub begin_after_fault_text : BeginAfterFault → List ℕ
begin_after_fault_text (Behind commits) = codes "behind at " ++ decimal commits
begin_after_fault_text (Refused refused) = begin_fault_text refused

-- what is told of a fault of workers: all but the outcomes and the book
abbrev pub worker_fault_of : WorkFault → WorkerFault
worker_fault_of work.Workers = told.Workers
worker_fault_of work.TooManyJobs = told.TooManyJobs
worker_fault_of (work.NoThread started outcomes book) = told.NoThread started
worker_fault_of (work.Broken job outcome book) = told.Broken job
worker_fault_of (work.Memory book) = told.Memory

-- a code, and the job from 0
abbrev pub worker_fault_text : WorkerFault → List ℕ
worker_fault_text told.Workers = codes "W1"
worker_fault_text told.TooManyJobs = codes "W5"
worker_fault_text (told.NoThread started) = codes "W2"
worker_fault_text (told.Broken job) = codes "W3 " ++ decimal job
worker_fault_text told.Memory = codes "memory"

-- why jobs were not done as they have to be: what is told of it
abbrev pub work_fault_text : WorkFault → List ℕ
work_fault_text fault = worker_fault_text (worker_fault_of fault)
