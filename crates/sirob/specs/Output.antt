-- What the commands write.
use Rattle.std.specs.Prelude.{◌≡◌, ◌⊎◌, ℕ, Bool, true, false, List, [], ◌∷◌, ◌++◌, codes, Option, None, Ok}
use Rattle.prog_tree.specs.Syntax.{DraftTree}
use Rattle.prog_text.specs.Canonical.{canonical}
use Rattle.prog_check.specs.Faults.{first_fault}
use Rattle.prog_check.specs.Paths.{paths_of}
use Rattle.dep_graph.specs.declared.danger.Danger.{Danger}
use Rattle.dep_graph.specs.Danger.{IsLeastDanger}
use Rattle.robust_cert.specs.declared.certificate.Certificate.{Certificate}
use Rattle.robust_cert.specs.Accepted.{IsAccepted}
use Rattle.robust_cert.specs.Json.{certificate_text}
use Rattle.robust_cert.specs.Reading.{IsTextOf}
use Rattle.si_repair.specs.Findings.{AsksFew, IsCertificateOf}
use Rattle.history_book.specs.declared.instances.row.HistoryRow.{HistoryRow}
use Rattle.history_book.specs.View.{BookView, history_of}
use Rattle.si_engine.specs.declared.output.finding.Serializability.{Serializability}
use Rattle.si_engine.specs.declared.output.finding.Serializability.TheVariants.{Order}
use Rattle.si_engine.specs.declared.input.item_list.ItemList.{ItemList}
use Rattle.si_engine.specs.declared.input.script.Script.{Script}
use Rattle.si_engine.specs.declared.input.source.InputFault.TheVariants as input_fault
use Rattle.si_engine.specs.Sources.{ForInput}
use Rattle.si_engine.specs.Runs.{run_lines, AddsFirst, AddsEnd, AddsRun}
use Rattle.si_engine.specs.Script.{script_of}
use Rattle.si_engine.specs.Writing.{WritesOr}
use Rattle.job_list.specs.declared.job.Job.{Job}
use Rattle.job_list.specs.declared.job.JobOutcome.{JobOutcome}
use Rattle.si_workers.specs.Assigned.{assigned}
use Rattle.job_list.specs.JobLines.{jobs_of}
use Rattle.si_workers.specs.Work.{AreDone}
use Rattle.sirob.specs.declared.command_line.Mode.{Mode}
use Rattle.sirob.specs.declared.command_line.Mode.TheVariants.{Check, Certify, Verify, Repair, Run, Audit, Work}
use Rattle.sirob.specs.declared.command_fault.CommandFault.{CommandFault}
use Rattle.sirob.specs.declared.command_fault.CommandFault.TheVariants as fault
use Rattle.sirob.specs.declared.status.Status.{Status}
use Rattle.sirob.specs.declared.status.Status.TheVariants.{Done, Unserializable, Faulty, Memory}
use Rattle.sirob.specs.FaultLines.{fault_line, is_memory}
use Rattle.sirob.specs.Refusal.{refusal_text}
use Rattle.sirob.specs.Status.{status_of}
use Rattle.sirob.specs.Work.{work_text}
use Rattle.sirob.specs.Inputs.{IsChecked, HasPart, IsRobust, MayRun, IsAudited, audit_lines, IsRepaired}
use Rattle.sirob.specs.InputFaults.{IsFaultOf}

-- the part is a certificate that is accepted for the set
pub record ShowsRobust (set : DraftTree) (part : List ℕ) : Type 0 where
  pub certificate : Certificate
  pub read : IsTextOf certificate part
  pub accepted : IsAccepted (paths_of set) certificate

-- the text of a certificate of the set and a line feed, which is read as this certificate;
-- and it is accepted for the set
pub record GivesCertificate (set : DraftTree) (written : List ℕ) (ended : Status) : Type 0 where
  pub certificate : Certificate
  pub accepted : IsAccepted (paths_of set) certificate
  pub own : IsCertificateOf (paths_of set) certificate
  pub text : written ≡ certificate_text certificate ++ 10 ∷ []
  pub read : IsTextOf certificate written
  pub status : ended ≡ Done

-- the refusal of the set by its least dangerous structure
pub record GivesRefusal (set : DraftTree) (written : List ℕ) (ended : Status) : Type 0 where
  pub danger : Danger
  pub few : AsksFew set
  pub least : IsLeastDanger (paths_of set) danger
  pub text : written ≡ refusal_text set danger
  pub status : ended ≡ Unserializable

-- what an analysis of the set finds
abbrev pub GivesFinding : DraftTree → List ℕ → Status → Type 0
GivesFinding set written status = GivesCertificate set written status ⊎ GivesRefusal set written status

-- the canonical text of the repaired set, which has no fault
pub record GivesRepaired (promote : Bool) (set : DraftTree) (written : List ℕ) (ended : Status) : Type 0 where
  pub repaired : DraftTree
  pub made : IsRepaired promote set repaired
  pub sound : first_fault repaired ≡ None
  pub text : written ≡ canonical repaired
  pub status : ended ≡ Done

-- how a run may end: on a robust set in an order, and else in an order or a cycle
abbrev pub MayEnd : (robust : Bool) → Serializability → Type 0
MayEnd false finding = Unit {0}
MayEnd true finding = finding ≡ Order

-- all lines of the script that the part is
abbrev pub GivesRun : (robust : Bool) → DraftTree → List ℕ → List ℕ → Status → Type 0
GivesRun robust set part written status =
    (finding : Serializability) × MayEnd robust finding × (script : Script) × (script_of set part ≡ Ok script)
    × AddsRun set script finding [] written × (status ≡ status_of finding)

-- the lines of the rows that audited records leave, and the last line
abbrev pub GivesAudit : DraftTree → List ℕ → List ℕ → Status → Type 0
GivesAudit set part written status =
    (finding : Serializability) × (records : ItemList HistoryRow) × IsAudited set part records
    × AddsEnd set records.rows (history_of records.items) finding [] written × (status ≡ status_of finding)

-- so many workers did the jobs that the part is, and these are the counts of their outcomes and the rows of the book
pub record GivesWork (workers : ℕ) (set : DraftTree) (part written : List ℕ) : Type 0 where
  pub list : ItemList Job
  pub read : jobs_of set part ≡ Ok list
  pub outcomes : List JobOutcome
  pub book : BookView
  pub done : AreDone (assigned workers set list.rows) list.items outcomes book
  pub text : written ≡ work_text outcomes book

-- all that a second part without a fault means was written, and this is the status behind it; a set that may not run
-- is refused in its place
abbrev pub GivesPart : Mode → DraftTree → List ℕ → List ℕ → Status → Type 0
GivesPart Verify set part written status = ShowsRobust set part × (written ≡ codes "robust\n") × (status ≡ Done)
GivesPart (Run robust) set part written status =
    (MayRun robust set × GivesRun robust set part written status) ⊎ ((robust ≡ true) × GivesRefusal set written status)
GivesPart Audit set part written status = GivesAudit set part written status
GivesPart (Work workers) set part written status =
    (IsRobust set × GivesWork workers set part written × (status ≡ Done)) ⊎ GivesRefusal set written status
GivesPart mode set part written status = ⊥

-- some first lines of it were written, before the last
abbrev pub GivesFirstPart : Mode → DraftTree → List ℕ → List ℕ → Type 0
GivesFirstPart (Run robust) set part written =
    MayRun robust set × (script : Script) × (script_of set part ≡ Ok script)
    × AddsFirst (run_lines set script) [] written
GivesFirstPart Audit set part written =
    (records : ItemList HistoryRow) × IsAudited set part records × AddsFirst (audit_lines set records) [] written
GivesFirstPart mode set part written = ⊥

-- all that an input means by its second part was written, and this is the status behind it
abbrev pub GivesByPart : Mode → List ℕ → List ℕ → Status → Type 0
GivesByPart mode input written status =
    (set : DraftTree) × (part : List ℕ) × HasPart input set part × GivesPart mode set part written status

-- all that the input means was written, and this is the status behind it: the canonical text, what an analysis finds,
-- the repaired set, or what its part means
abbrev pub Gives : Mode → List ℕ → List ℕ → Status → Type 0
Gives Check input written status =
    (set : DraftTree) × IsChecked input set × (written ≡ canonical set) × (status ≡ Done)
Gives Certify input written status = (set : DraftTree) × IsChecked input set × GivesFinding set written status
Gives (Repair promote) input written status =
    (set : DraftTree) × IsChecked input set × GivesRepaired promote set written status
Gives mode input written status = GivesByPart mode input written status

-- some first lines of it were written
abbrev pub GivesFirst : Mode → List ℕ → List ℕ → Type 0
GivesFirst mode input written =
    (set : DraftTree) × (part : List ℕ) × HasPart input set part × GivesFirstPart mode set part written

-- memory ran out: before the first line was known, or behind some first lines
pub data StopsBehind (mode : Mode) (input : List ℕ) : List ℕ → Type 0 where
  at_once : StopsBehind mode input []
  behind_lines : (written : List ℕ) → GivesFirst mode input written → StopsBehind mode input written

-- the line of want of memory
abbrev pub memory_line : List ℕ
memory_line = codes "fault memory" ++ 10 ∷ []

-- what may be written for an input, and the status behind it
pub data IsAnswer (mode : Mode) (input : List ℕ) : List ℕ → Status → Type 0 where
  -- all that the input means
  done : (written : List ℕ) (status : Status) → Gives mode input written status → IsAnswer mode input written status
  -- the line of the first fault, alone
  at_fault : (f : CommandFault) → is_memory f ≡ false → IsFaultOf mode input f
      → IsAnswer mode input (fault_line f) Faulty
  -- some first lines of it, or none, and the line of want of memory
  stopped : (written : List ℕ) → StopsBehind mode input written → IsAnswer mode input (written ++ memory_line) Memory

-- what is written of a source that failed, and the status behind it
pub data IsUnread : List ℕ → Status → Type 0 where
  at_fault : IsUnread (fault_line (fault.Input input_fault.ReadFault)) Faulty
  stopped : IsUnread memory_line Memory

-- what may be written of a source, and the status behind it: the answer to an input that it can give;
-- of one that failed, that it did
abbrev pub IsReply : Mode → (left : Option (List ℕ)) → (failed : Bool) → List ℕ → Status → Type 0
IsReply mode left false written status = ForInput left (λ input. IsAnswer mode input written status)
IsReply mode left true written status = IsUnread written status

-- such bytes were written, and such a status is given; a sink that failed has some first of such bytes,
-- and the status is that of a fault
abbrev pub WritesWithStatus :
    (List ℕ → Status → Type 0) → (failed : Bool) → Option (List ℕ) → Option (List ℕ) → Status → Type 0
WritesWithStatus = WritesOr Faulty
