-- What a job is stopped by.
use Rattle.history_book.specs.declared.fault.ScanFault.{ScanFault}
use Rattle.history_book.specs.declared.fault.ScanFault.TheVariants as scan
use Rattle.prog_run.specs.declared.fault.AnswerFault.{AnswerFault}
use Rattle.prog_run.specs.declared.fault.AnswerFault.TheVariants as answer
use Rattle.job_worker.specs.declared.stop.Stop.{Stop}
use Rattle.job_worker.specs.declared.stop.Stop.TheVariants.{Lost, NoMemory}

-- where a region is not read
abbrev pub stop_of_scan : ScanFault → Stop
stop_of_scan scan.NoSuchTicket = Lost
stop_of_scan scan.Memory = NoMemory

-- where a run does not take an answer
abbrev pub stop_of_answer : AnswerFault → Stop
stop_of_answer answer.NotAsked = Lost
stop_of_answer answer.BadRows = Lost
stop_of_answer answer.Memory = NoMemory
