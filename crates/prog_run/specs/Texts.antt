-- The texts of faults.
use Rattle.std.specs.Prelude.{ℕ, List, codes}
use Rattle.prog_run.specs.declared.fault.RunFault.{RunFault}
use Rattle.prog_run.specs.declared.fault.RunFault.TheVariants as begin
use Rattle.prog_run.specs.declared.fault.AnswerFault.{AnswerFault}
use Rattle.prog_run.specs.declared.fault.AnswerFault.TheVariants as answer

-- why a run could not be made
abbrev pub run_fault_text : RunFault → List ℕ
run_fault_text begin.NoSuchProgram = codes "no such program"
run_fault_text begin.WrongArguments = codes "wrong arguments"
run_fault_text begin.Memory = codes "memory"

-- why an answer was not taken
abbrev pub answer_fault_text : AnswerFault → List ℕ
answer_fault_text answer.NotAsked = codes "not asked"
answer_fault_text answer.BadRows = codes "bad rows"
answer_fault_text answer.Memory = codes "memory"
