-- What an input means, and what a repair makes of its set.
use Rattle.std.specs.Prelude.{◌≡◌, ℕ, Bool, true, false, ◌≤◌, All, List, [], ◌∷◌, length, None, Ok}
use Rattle.prog_tree.specs.Syntax.{DraftTree}
use Rattle.prog_text.specs.Answer.{Accepts}
use Rattle.prog_check.specs.Faults.{first_fault}
use Rattle.prog_check.specs.Paths.{paths_of}
use Rattle.repair_laws.specs.declared.plan.Pair.{Pair}
use Rattle.repair_laws.specs.Materialised.{IsMaterialised}
use Rattle.repair_laws.specs.Plans.{IsPlan}
use Rattle.repair_laws.specs.Promoted.{IsPromoted}
use Rattle.repair_laws.specs.Refusals.{StopReason, StopsMaterialising, StopsPromotion}
use Rattle.robust_cert.specs.declared.certificate.Certificate.{Certificate}
use Rattle.robust_cert.specs.Accepted.{IsAccepted}
use Rattle.si_repair.specs.declared.repairs.fault.RepairFault.{RepairFault}
use Rattle.si_repair.specs.Findings.{AsksFew}
use Rattle.si_repair.specs.Repairing.{IsCarriedOut, IsRepairFault}
use Rattle.history_book.specs.declared.instances.row.HistoryRow.{HistoryRow}
use Rattle.history_book.specs.History.{IsLawful}
use Rattle.history_book.specs.TrueBook.{IsTrueRow}
use Rattle.history_book.specs.View.{history_of, most_endings}
use Rattle.si_engine.specs.declared.input.item_list.ItemList.{ItemList}
use Rattle.si_engine.specs.Limits.{input_limit}
use Rattle.si_engine.specs.Records.{records_of}
use Rattle.si_engine.specs.Runs.{end_lines}
use Rattle.sirob.specs.declared.command_line.Mode.{Mode}
use Rattle.sirob.specs.declared.command_line.Mode.TheVariants.{Check, Certify, Verify, Repair, Run, Audit, Work}
use Rattle.sirob.specs.Parts.{parts_of}

-- ---- what an input means

-- how many parts a command wants
abbrev pub parts_wanted : Mode → ℕ
parts_wanted Check = 1
parts_wanted Certify = 1
parts_wanted Verify = 2
parts_wanted (Repair promote) = 1
parts_wanted (Run robust) = 2
parts_wanted Audit = 2
parts_wanted (Work workers) = 2

-- jobs are done by workers, which may wait
abbrev pub is_work : Mode → Bool
is_work (Work workers) = true
is_work mode = false

-- the input has just these parts
pub record IsDivided (input : List ℕ) (parts : List (List ℕ)) : Type 0 where
  pub short : length input ≤ input_limit
  pub same : parts_of input ≡ parts

-- the text spells this set, which has no fault
pub record IsSoundText (text : List ℕ) (set : DraftTree) : Type 0 where
  pub accepted : Accepts text set
  pub sound : first_fault set ≡ None

-- the input is the text of a set without a fault, with these parts behind it
pub record HasSet (input : List ℕ) (set : DraftTree) (others : List (List ℕ)) : Type 0 where
  pub text : List ℕ
  pub divided : IsDivided input (text ∷ others)
  pub spelled : IsSoundText text set

-- the input is the text of a set without a fault
abbrev pub IsChecked : (input : List ℕ) → (set : DraftTree) → Type 0
IsChecked input set = HasSet input set []

-- the input is the text of a set without a fault, and this part behind it
abbrev pub HasPart : (input : List ℕ) → (set : DraftTree) → (part : List ℕ) → Type 0
HasPart input set part = HasSet input set (part ∷ [])

-- some certificate is accepted for the set, so that it has no dangerous structure
pub record IsRobust (set : DraftTree) : Type 0 where
  pub certificate : Certificate
  pub accepted : IsAccepted (paths_of set) certificate

-- what a script runs on: any set, or a robust one where that is asked for
abbrev pub MayRun : (robust : Bool) → DraftTree → Type 0
MayRun false set = Unit {0}
MayRun true set = IsRobust set

-- the part is these records, which are a lawful history, not too long, with the replies of evaluation
pub record IsAudited (set : DraftTree) (part : List ℕ) (records : ItemList HistoryRow) : Type 0 where
  pub read : records_of set part ≡ Ok records
  pub few : length records.items ≤ most_endings
  pub lawful : IsLawful set records.rows (history_of records.items)
  pub replies : All (IsTrueRow set records.rows (history_of records.items)) records.items

-- the rows that audited records leave, one line each
abbrev pub audit_lines : DraftTree → ItemList HistoryRow → List (List ℕ)
audit_lines set records = end_lines set records.rows (history_of records.items)

-- ---- repairs

-- what a plan makes of the set: keeps of what its programs read, or of rows of new tables
abbrev pub IsRepairBy : (promote : Bool) → DraftTree → List Pair → DraftTree → Type 0
IsRepairBy true = IsPromoted
IsRepairBy false = IsMaterialised

-- why the pair at a place of a plan stops it
abbrev pub StopsRepair : (promote : Bool) → DraftTree → List Pair → ℕ → Pair → StopReason → Type 0
StopsRepair true = StopsPromotion
StopsRepair false = StopsMaterialising

-- the set's plan, carried out: a set without a dangerous structure,
-- which asks as many questions, and whose programs mean the same
pub record IsRepaired (promote : Bool) (set repaired : DraftTree) : Type 0 where
  pub few : AsksFew set
  pub plan : List Pair
  pub planned : IsPlan (paths_of set) plan
  pub carried_out : IsCarriedOut (IsRepairBy promote) (StopsRepair promote) set plan repaired

-- the set is analysed, but a pair of its plan stops the repair
pub record IsUnrepaired (promote : Bool) (set : DraftTree) (f : RepairFault) : Type 0 where
  pub few : AsksFew set
  pub plan : List Pair
  pub planned : IsPlan (paths_of set) plan
  pub wrong : IsRepairFault (StopsRepair promote set plan) plan f
