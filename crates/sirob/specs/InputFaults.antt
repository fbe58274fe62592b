-- The faults of an input, and of its second part.
use Rattle.std.specs.Prelude.{◌≡◌, ℕ, true, ◌+◌, ◌<◌, ◌≤◌, List, ◌∷◌, length, Some, Ok, Err}
use Rattle.prog_tree.specs.Syntax.{DraftTree}
use Rattle.prog_text.specs.Answer.{Accepts, Refuses}
use Rattle.prog_check.specs.Faults.{first_fault}
use Rattle.prog_check.specs.Paths.{paths_of}
use Rattle.robust_cert.specs.declared.certificate.Certificate.{Certificate}
use Rattle.robust_cert.specs.Reading.{HasFault, IsTextOf}
use Rattle.robust_cert.specs.Refused.{IsFirstFault}
use Rattle.si_repair.specs.Findings.{AsksTooMany}
use Rattle.si_repair.specs.declared.fault.AnalyseFault.{AnalyseFault}
use Rattle.si_repair.specs.declared.fault.AnalyseFault.TheVariants as analyse_fault
use Rattle.si_repair.specs.declared.repairs.fault.RepairFault.{RepairFault}
use Rattle.history_book.specs.declared.instances.row.HistoryRow.{HistoryRow}
use Rattle.history_book.specs.Audit.{IsAuditFault}
use Rattle.si_engine.specs.declared.input.item_list.ItemList.{ItemList}
use Rattle.si_engine.specs.declared.input.line_fault.LineFault.{LineFault}
use Rattle.si_engine.specs.declared.input.part_fault.PartFault.TheVariants as part_fault
use Rattle.si_engine.specs.declared.input.source.InputFault.TheVariants as input_fault
use Rattle.si_engine.specs.Limits.{input_limit}
use Rattle.si_engine.specs.Records.{records_of}
use Rattle.si_engine.specs.Script.{script_of}
use Rattle.si_workers.specs.declared.fault.WorkFault.{WorkFault}
use Rattle.si_workers.specs.declared.fault.WorkerFault.{WorkerFault}
use Rattle.si_workers.specs.Texts.{worker_fault_of}
use Rattle.job_list.specs.declared.job.Job.{Job}
use Rattle.si_workers.specs.Assigned.{assigned}
use Rattle.job_list.specs.JobLines.{jobs_of}
use Rattle.si_workers.specs.Work.{IsWorkFault}
use Rattle.sirob.specs.declared.command_line.Mode.{Mode}
use Rattle.sirob.specs.declared.command_line.Mode.TheVariants.{Certify, Verify, Repair, Run, Audit, Work}
use Rattle.sirob.specs.declared.parts.SplitFault.TheVariants as split_fault
use Rattle.sirob.specs.declared.command_fault.CommandFault.{CommandFault}
use Rattle.sirob.specs.declared.command_fault.CommandFault.TheVariants as fault
use Rattle.sirob.specs.Parts.{parts_of}
use Rattle.sirob.specs.Inputs.{parts_wanted, IsDivided, HasSet, IsChecked, HasPart, IsRobust, MayRun, IsUnrepaired}

-- the text spells no set without a fault, and this is its first
abbrev pub IsFaultOfText : List ℕ → CommandFault → Type 0
IsFaultOfText text (fault.Text f) = Refuses text f
IsFaultOfText text (fault.Check f) = (set : DraftTree) × Accepts text set × (first_fault set ≡ Some f)
IsFaultOfText text f = ⊥

-- the first fault of an input of which so many parts are wanted, up to its text
abbrev pub IsFaultOfInput : (wanted : ℕ) → List ℕ → CommandFault → Type 0
IsFaultOfInput wanted input (fault.Input input_fault.TooLong) = input_limit < length input
IsFaultOfInput wanted input (fault.Input f) = ⊥
IsFaultOfInput wanted input (fault.Split split_fault.MissingPart) =
    (length input ≤ input_limit) × (length (parts_of input) < wanted)
IsFaultOfInput wanted input (fault.Split split_fault.ExtraPart) =
    (length input ≤ input_limit) × (wanted < length (parts_of input))
IsFaultOfInput wanted input f =
    (text : List ℕ) × (others : List (List ℕ))
    × IsDivided input (text ∷ others) × (length (text ∷ others) ≡ wanted) × IsFaultOfText text f

-- the set is not analysed
abbrev pub IsUnanalysed : DraftTree → AnalyseFault → Type 0
IsUnanalysed set analyse_fault.TooLarge = AsksTooMany set
IsUnanalysed set analyse_fault.Memory = ⊥

-- the set is analysed for a command, before its second part is looked at
abbrev pub IsAnalysedFor : Mode → Type 0
IsAnalysedFor Certify = Unit {0}
IsAnalysedFor (Repair promote) = Unit {0}
IsAnalysedFor (Run robust) = robust ≡ true
IsAnalysedFor (Work workers) = Unit {0}
IsAnalysedFor mode = ⊥

-- the first fault of the lines of a second part
abbrev pub IsFaultOfLine : Mode → DraftTree → List ℕ → LineFault → Type 0
IsFaultOfLine (Run robust) set part f = MayRun robust set × (script_of set part ≡ Err f)
IsFaultOfLine Audit set part f = records_of set part ≡ Err f
IsFaultOfLine (Work workers) set part f = IsRobust set × (jobs_of set part ≡ Err f)
IsFaultOfLine mode set part f = ⊥

-- what kept so many workers from doing the jobs that the part is, on a robust set
pub record IsUndone (workers : ℕ) (set : DraftTree) (part : List ℕ) (told : WorkerFault) : Type 0 where
  pub robust : IsRobust set
  pub list : ItemList Job
  pub read : jobs_of set part ≡ Ok list
  pub f : WorkFault
  pub wrong : IsWorkFault (assigned workers set list.rows) list.items f
  pub named : worker_fault_of f ≡ told

-- the first fault of a set with a second part: of the analysis that comes before its lines; of its lines, of its
-- records as a history, of its certificate, or of the workers
abbrev pub IsFaultOfPart : Mode → DraftTree → List ℕ → CommandFault → Type 0
IsFaultOfPart mode set part (fault.Analysis f) = IsAnalysedFor mode × IsUnanalysed set f
IsFaultOfPart mode set part (fault.Part (part_fault.Line f)) = IsFaultOfLine mode set part f
IsFaultOfPart mode set part (fault.Audit f) =
    (mode ≡ Audit) × (records : ItemList HistoryRow)
    × (records_of set part ≡ Ok records) × IsAuditFault set records.rows records.items f
IsFaultOfPart mode set part (fault.Work f) = (workers : ℕ) × (mode ≡ Work workers) × IsUndone workers set part f
IsFaultOfPart mode set part (fault.Json f) = (mode ≡ Verify) × HasFault part f
IsFaultOfPart mode set part (fault.Certificate f) =
    (mode ≡ Verify) × (certificate : Certificate)
    × IsTextOf certificate part × IsFirstFault (paths_of set) certificate f
IsFaultOfPart mode set part f = ⊥

-- the input has a second part, of which this is the first fault
abbrev pub IsFaultByPart : Mode → List ℕ → CommandFault → Type 0
IsFaultByPart mode input f =
    (set : DraftTree) × (part : List ℕ) × HasPart input set part × IsFaultOfPart mode set part f

-- the input has as many parts as are wanted, and a set that is not analysed, though the command asks for it
abbrev pub IsFaultOfSet : Mode → List ℕ → AnalyseFault → Type 0
IsFaultOfSet mode input f =
    IsAnalysedFor mode × (set : DraftTree) × (others : List (List ℕ))
    × HasSet input set others × (length others + 1 ≡ parts_wanted mode) × IsUnanalysed set f

-- the input has a set that is not repaired, though the command asks for it
abbrev pub IsFaultOfRepair : Mode → List ℕ → RepairFault → Type 0
IsFaultOfRepair (Repair promote) input f = (set : DraftTree) × IsChecked input set × IsUnrepaired promote set f
IsFaultOfRepair mode input f = ⊥

-- the first fault of an input
abbrev pub IsFaultOf : Mode → List ℕ → CommandFault → Type 0
IsFaultOf mode input (fault.Analysis f) = IsFaultOfSet mode input f
IsFaultOf mode input (fault.Repair f) = IsFaultOfRepair mode input f
IsFaultOf mode input (fault.Json f) = IsFaultByPart mode input (fault.Json f)
IsFaultOf mode input (fault.Certificate f) = IsFaultByPart mode input (fault.Certificate f)
IsFaultOf mode input (fault.Part f) = IsFaultByPart mode input (fault.Part f)
IsFaultOf mode input (fault.Audit f) = IsFaultByPart mode input (fault.Audit f)
IsFaultOf mode input (fault.Work f) = IsFaultByPart mode input (fault.Work f)
IsFaultOf mode input f = IsFaultOfInput (parts_wanted mode) input f
