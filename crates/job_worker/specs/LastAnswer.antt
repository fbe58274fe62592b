-- What a worker's book answered last of an instance that it refused to begin, or that ended.
use Rattle.std.specs.Prelude.{◌≡◌, ℕ, Option, Some, Result, Ok, Err}
use Rattle.history_book.specs.declared.fault.BeginFault.{BeginFault}
use Rattle.history_book.specs.declared.fault.CommitFault.{CommitFault}
use Rattle.history_book.specs.declared.fault.CommitFault.TheVariants as commit
use Rattle.history_book.specs.declared.fault.EndFault.{EndFault}
use Rattle.job_worker.specs.declared.desk.Answer.{Answer}
use Rattle.job_worker.specs.declared.desk.Answer.TheVariants as answer
use Rattle.job_list.specs.declared.job.JobEnd.{JobEnd}
use Rattle.job_list.specs.declared.job.JobEnd.TheVariants as end

-- the last answer behind a begin, a commit and the end of an aborted instance
abbrev pub after_begin : {X : Type 0} → Result X BeginFault → Option Answer → Option Answer
after_begin (Ok x) last = last
after_begin (Err why) last = Some (answer.Refused why)

abbrev pub after_commit : Result ℕ CommitFault → Option Answer → Option Answer
after_commit (Ok number) last = Some (answer.Committed number)
after_commit (Err (commit.Clashed clash)) last = Some (answer.Clashed clash)
after_commit (Err other) last = last

abbrev pub after_end : {X : Type 0} → Result X EndFault → Option Answer → Option Answer
after_end (Ok x) last = Some answer.Aborted
after_end (Err fault) last = last

-- the end that is told of a job is the last answer
abbrev pub IsLastAnswer : Option Answer → JobEnd → Type 0
IsLastAnswer last (end.Committed number replies) = last ≡ Some (answer.Committed number)
IsLastAnswer last (end.Aborted cause) = last ≡ Some answer.Aborted
IsLastAnswer last (end.Clashed clash) = last ≡ Some (answer.Clashed clash)
IsLastAnswer last (end.Refused why) = last ≡ Some (answer.Refused why)
