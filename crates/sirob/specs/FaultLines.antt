-- The lines that faults are.
use Rattle.std.specs.Prelude.{ℕ, Bool, true, false, List, [], ◌∷◌, ◌++◌, codes}
use Rattle.prog_check.specs.Texts.{check_fault_text}
use Rattle.prog_check.specs.declared.fault.CheckFault.TheVariants as c
use Rattle.prog_text.specs.Texts.{text_fault_text}
use Rattle.prog_text.specs.declared.fault.TextFault.TheVariants as t
use Rattle.sirob.specs.declared.command_fault.CommandFault.{CommandFault}
use Rattle.sirob.specs.declared.command_fault.CommandFault.TheVariants.{Input, Split, Text, Check, Analysis, Repair, Json, Certificate, Part, Audit, Work}
use Rattle.history_book.specs.Texts.{audit_fault_text}
use Rattle.history_book.specs.declared.audit.AuditFault.TheVariants as a
use Rattle.robust_cert.specs.Texts.{cert_fault_text, json_fault_text}
use Rattle.robust_cert.specs.declared.fault.CertFault.TheVariants as k
use Rattle.robust_cert.specs.declared.fault.JsonFault.TheVariants as j
use Rattle.si_repair.specs.Texts.{analyse_fault_text, repair_fault_text}
use Rattle.si_repair.specs.declared.fault.AnalyseFault.TheVariants as q
use Rattle.si_repair.specs.declared.repairs.fault.RepairFault.TheVariants as u
use Rattle.si_engine.specs.declared.input.part_fault.PartFault.TheVariants as part_fault
use Rattle.si_engine.specs.Texts.{input_fault_text, part_fault_text}
use Rattle.si_engine.specs.declared.input.line_fault.LineFault.TheVariants as line
use Rattle.si_engine.specs.declared.input.source.InputFault.TheVariants as i
use Rattle.si_workers.specs.declared.fault.WorkerFault.TheVariants as w
use Rattle.si_workers.specs.Texts.{worker_fault_text}
use Rattle.sirob.specs.Faults.{split_fault_text}

abbrev pub fault_text : CommandFault → List ℕ
fault_text (Input fault) = input_fault_text fault
fault_text (Split fault) = split_fault_text fault
fault_text (Text fault) = text_fault_text fault
fault_text (Check fault) = check_fault_text fault
fault_text (Analysis fault) = analyse_fault_text fault
fault_text (Repair fault) = repair_fault_text fault
fault_text (Json fault) = json_fault_text fault
fault_text (Certificate fault) = cert_fault_text fault
fault_text (Part fault) = part_fault_text fault
fault_text (Audit fault) = audit_fault_text fault
fault_text (Work fault) = worker_fault_text fault

-- the whole line, with its line feed
abbrev pub fault_line : CommandFault → List ℕ
fault_line fault = codes "fault " ++ (fault_text fault ++ 10 ∷ [])

-- want of memory, which is no fault of the input
abbrev pub is_memory : CommandFault → Bool
is_memory (Input i.Memory) = true
is_memory (Text t.Memory) = true
is_memory (Check c.Memory) = true
is_memory (Analysis q.Memory) = true
is_memory (Repair u.Memory) = true
is_memory (Json j.Memory) = true
is_memory (Certificate k.Memory) = true
is_memory (Part (part_fault.Input i.Memory)) = true
is_memory (Part (part_fault.Line line.Memory)) = true
is_memory (Audit a.Memory) = true
is_memory (Work w.Memory) = true
is_memory fault = false
