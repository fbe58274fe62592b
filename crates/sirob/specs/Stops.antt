-- How the steps of a command end: words of their contracts, and of no promise.
use Rattle.std.specs.Prelude.{◌≡◌, ◌⊎◌, ◌++◌, ℕ, ◌≤◌, Bool, true, false, List, [], ◌∷◌, length, Option, Result, Ok, Err, IfOk, IfErr, string_bytes}
use Rattle.prog_tree.specs.declared.program.Draft.{Draft}
use Rattle.prog_tree.specs.Syntax.{DraftTree}
use Rattle.prog_tree.specs.Tree.{draft_tree}
use Rattle.robust_cert.specs.declared.certificate.Certificate.{Certificate}
use Rattle.robust_cert.specs.Json.{certificate_text}
use Rattle.robust_cert.specs.Reading.{IsTextOf}
use Rattle.si_repair.specs.declared.fault.AnalyseFault.{AnalyseFault}
use Rattle.si_repair.specs.declared.repairs.fault.RepairFault.{RepairFault}
use Rattle.si_engine.specs.declared.output.finding.Serializability.{Serializability}
use Rattle.si_engine.specs.declared.input.line_fault.LineFault.{LineFault}
use Rattle.si_engine.specs.declared.input.part_fault.PartFault.{PartFault}
use Rattle.si_engine.specs.declared.input.part_fault.PartFault.TheVariants as part_fault
use Rattle.si_engine.specs.declared.input.source.InputFault.TheVariants as input_fault
use Rattle.si_engine.specs.Limits.{input_limit}
use Rattle.si_engine.specs.Sources.{ForInput}
use Rattle.si_engine.specs.Writing.{WritesOr}
use Rattle.job_list.specs.JobLines.{jobs_of}
use Rattle.sirob.specs.declared.command_line.Mode.{Mode}
use Rattle.sirob.specs.declared.commands.robust.Verified.{Verified}
use Rattle.sirob.specs.declared.commands.robust.Verified.TheVariants as verified
use Rattle.sirob.specs.declared.command_fault.CommandFault.{CommandFault}
use Rattle.sirob.specs.declared.command_fault.CommandFault.TheVariants as fault
use Rattle.sirob.specs.declared.status.Status.{Status}
use Rattle.sirob.specs.declared.status.Status.TheVariants.{Done, Unserializable, Faulty, Memory}
use Rattle.sirob.specs.FaultLines.{fault_line, is_memory}
use Rattle.sirob.specs.InputFaults.{IsUnanalysed, IsFaultOf, IsFaultOfPart}
use Rattle.sirob.specs.Inputs.{HasPart, IsRobust, IsUnrepaired}
use Rattle.sirob.specs.Output.{Gives, GivesPart, GivesFirstPart, GivesRefusal, StopsBehind, memory_line}
use Rattle.sirob.specs.Status.{status_of}

-- the sink failed
abbrev pub write_lost : CommandFault
write_lost = fault.Part part_fault.WriteFault

-- such bytes were written, and a command ends so; one whose sink failed ends in that, behind some first of such bytes
abbrev pub WritesWithEnd :
    (means : List ℕ → Result Status CommandFault → Type 0) → (failed : Bool) → (old new : Option (List ℕ)) →
    Result Status CommandFault → Type 0
WritesWithEnd means failed old new ended = WritesOr (Err write_lost) means failed old new ended

-- ---- an analysis

-- the set is not analysed, and this is the fault that says so
abbrev pub IsUnanalysedBy : DraftTree → CommandFault → Type 0
IsUnanalysedBy set f = (g : AnalyseFault) × (f ≡ fault.Analysis g) × IsUnanalysed set g

-- the set is not analysed or not repaired, and this is the fault that says so
abbrev pub IsUnrepairedBy : (promote : Bool) → DraftTree → CommandFault → Type 0
IsUnrepairedBy promote set f =
    IsUnanalysedBy set f ⊎ ((g : RepairFault) × (f ≡ fault.Repair g) × IsUnrepaired promote set g)

-- the set was found robust, or is refused by a text
abbrev pub IsVerified : Draft → Verified → Type 0
IsVerified set (verified.Robust robust) = (robust ≡ set) × IsRobust (draft_tree set)
IsVerified set (verified.Refused text) = GivesRefusal (draft_tree set) (string_bytes text) Unserializable

-- these bytes and this status, or nothing for want of memory
abbrev pub IsTextOrStop : List ℕ → Status → List ℕ → Result Status CommandFault → Type 0
IsTextOrStop text status written ended =
    IfOk ended (λ s. (written ≡ text) × (s ≡ status)) × IfErr ended (λ f. (written ≡ []) × (is_memory f ≡ true))

-- the text of a certificate and a line feed, which is read as this certificate; or nothing for want of memory
abbrev pub IsCertificateOrStop : Certificate → List ℕ → Result Status CommandFault → Type 0
IsCertificateOrStop certificate written ended =
    IsTextOrStop (certificate_text certificate ++ 10 ∷ []) Done written ended
    × IfOk ended (λ s. IsTextOf certificate written)

-- ---- a second part

-- the input is the text of a set without a fault and this part, which is no longer than an input may be
pub record IsSetAndPart (input : List ℕ) (set : DraftTree) (part : List ℕ) : Type 0 where
  pub has : HasPart input set part
  pub within : length part ≤ input_limit

-- a part stopped with this fault behind these bytes: a fault of the input comes before them all
abbrev pub IsPartStop : Mode → DraftTree → List ℕ → CommandFault → List ℕ → Type 0
IsPartStop mode set part f written =
    (is_memory f ≡ false → IsFaultOfPart mode set part f × (written ≡ []))
    × (is_memory f ≡ true → (written ≡ []) ⊎ GivesFirstPart mode set part written)

-- what is written for a part, and how it ends
abbrev pub IsPartDone : Mode → DraftTree → List ℕ → List ℕ → Result Status CommandFault → Type 0
IsPartDone mode set part written ended =
    IfOk ended (λ status. GivesPart mode set part written status)
    × IfErr ended (λ f. IsPartStop mode set part f written)

-- the first fault of the lines of jobs
abbrev pub IsFaultOfJobs : DraftTree → List ℕ → CommandFault → Type 0
IsFaultOfJobs set part f = (g : LineFault) × (f ≡ fault.Part (part_fault.Line g)) × (jobs_of set part ≡ Err g)

-- the end of a script's run as that of a command
abbrev pub as_command : Result Serializability PartFault → Result Status CommandFault
as_command (Ok finding) = Ok (status_of finding)
as_command (Err f) = Err (fault.Part f)

-- ---- an input

-- a command stopped with this fault behind these bytes: a fault of the input comes before them all
abbrev pub IsStop : Mode → List ℕ → CommandFault → List ℕ → Type 0
IsStop mode input f written =
    (is_memory f ≡ false → IsFaultOf mode input f × (written ≡ []))
    × (is_memory f ≡ true → StopsBehind mode input written)

-- what is written for an input, and how it ends
abbrev pub IsInputDone : Mode → List ℕ → List ℕ → Result Status CommandFault → Type 0
IsInputDone mode input written ended =
    IfOk ended (λ status. Gives mode input written status) × IfErr ended (λ f. IsStop mode input f written)

-- ---- a source

-- the one fault of a source that failed
abbrev pub IsReadFault : {X : Type 0} → Result X CommandFault → Type 0
IsReadFault ended = ended ≡ Err (fault.Input input_fault.ReadFault)

-- what is written for a source, and how it ends: nothing where the source failed
abbrev pub IsSourceDone :
    Mode → (left : Option (List ℕ)) → (failed : Bool) → List ℕ → Result Status CommandFault → Type 0
IsSourceDone mode left false written ended = ForInput left (λ input. IsInputDone mode input written ended)
IsSourceDone mode left true written ended = IsReadFault ended × (written ≡ [])

-- ---- the line behind all

-- what is written behind the lines of a command that ended so, and the status behind it; memory may lack for the line
-- of a fault
pub data Ends : Result Status CommandFault → List ℕ → Status → Type 0 where
  well : (status : Status) → Ends (Ok status) [] status
  in_fault : (f : CommandFault) → is_memory f ≡ false → Ends (Err f) (fault_line f) Faulty
  in_memory : (f : CommandFault) → Ends (Err f) memory_line Memory
