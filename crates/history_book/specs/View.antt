-- What contracts see of a book.
use Rattle.std.specs.Prelude.{ℕ, ◌+◌, ◌-◌, ◌^◌, ℤ, min, nat_le, nat_lt, ◌==◌, Bool, not, ◌||◌, List, [], ◌∷◌, ◌++◌, length, map, Option, Some, None, option_map, slice_get, Result, Ok, Err, if◌then◌else◌, ◌≡◌}
use Rattle.std.specs.BTreeMap.{is_at}
use Rattle.std.specs.Map.{lookup, remove_entry}
use Rattle.std.specs.Option.{option_or}
use Rattle.std.specs.Ordering.{nat_cmp}
use Rattle.prog_tree.specs.declared.cell.Cell.{Cell}
use Rattle.prog_tree.specs.declared.cell.Region.{Region}
use Rattle.prog_tree.specs.declared.program.Draft.{Draft}
use Rattle.prog_tree.specs.declared.program.Program.{Program}
use Rattle.prog_tree.specs.ChangeSet.{ChangeSet}
use Rattle.prog_tree.specs.Evaluation.{Evaluation}
use Rattle.prog_tree.specs.Table.{TableState, row_at, rows_in}
use Rattle.prog_tree.specs.Tree.{draft_tree}
use Rattle.history_book.specs.Dependencies.{depends}
use Rattle.history_book.specs.History.{Instance, nth_item, commits_of, state_after, evaluation}
use Rattle.history_book.specs.Serial.{Fits}
use Rattle.history_book.specs.Ticket.{TicketView}
use Rattle.serial_orders.specs.TraceView.{TraceView}
use Rattle.history_book.specs.Traced.{traces_of}
use Rattle.history_book.specs.declared.fault.BeginFault.{BeginFault}
use Rattle.history_book.specs.declared.fault.BeginFault.TheVariants.{NoSuchProgram, WrongArguments, TooOld, TooNew, Full, Memory}
use Rattle.history_book.specs.declared.instances.row.Ending.{Ending}
use Rattle.history_book.specs.declared.instances.row.HistoryRow.{HistoryRow}

-- a book: its set and opening rows, the instances that committed, how each instance ended, the active
-- instances by their numbers, how many begins succeeded, and the floor of the last vacuum
pub record BookView : Type 0 where
  pub set : Draft
  pub opening : TableState
  pub rows : List HistoryRow
  pub endings : List Ending
  pub active : List (ℕ × Instance)
  pub begun : ℕ
  pub floor : ℕ

-- a book in which nothing was begun
abbrev pub new_book : Draft → TableState → BookView
new_book set opening =
    record { set = set; opening = opening; rows = []; endings = []; active = []; begun = 0; floor = 0 }

-- ---- its history

-- the instance of a row
abbrev pub instance_of : HistoryRow → Instance
instance_of row = record { program = row.program; args = row.args; start = row.start }

-- the row of an instance, with its replies
abbrev pub row_of : Instance → List ℤ → HistoryRow
row_of i replies = record { program = i.program; args = i.args; start = i.start; replies = replies }

-- the instances of rows
abbrev pub history_of : List HistoryRow → List Instance
history_of = map instance_of

-- what was committed
abbrev pub commits_in : BookView → List ChangeSet
commits_in v = commits_of (draft_tree v.set) v.opening (history_of v.rows)

-- the state after the first n commits
abbrev pub state_in : BookView → ℕ → TableState
state_in v n = state_after (draft_tree v.set) v.opening (history_of v.rows) n

-- what an instance does on the state that it sees
abbrev pub done_in : BookView → Instance → Evaluation
done_in v i = evaluation (draft_tree v.set) v.opening (history_of v.rows) i

-- the traces of its commits
abbrev pub traces_in : BookView → List TraceView
traces_in v = traces_of (draft_tree v.set) v.opening (history_of v.rows)

-- one of two commits has to stand before the other
abbrev pub depends_in : BookView → ℕ → ℕ → Bool
depends_in v = depends (draft_tree v.set) v.opening (history_of v.rows)

-- an equivalent serial order of its commits
abbrev pub FitsBook : BookView → List ℕ → Type 0
FitsBook v order = Fits (draft_tree v.set) v.opening (history_of v.rows) order

-- the row of a commit number
abbrev pub nth_row : List HistoryRow → ℕ → Option HistoryRow
nth_row rows n = nth_item rows n

-- ---- its active instances

-- an instance that has this start
abbrev pub with_start : ℕ → Option Instance → Option Instance
with_start start None = None
with_start start (Some i) = if i.start == start then Some i else None

-- the active instance that has a ticket's number and start
abbrev pub active_at : BookView → TicketView → Option Instance
active_at v t = with_start t.start (lookup (is_at (nat_cmp t.number)) v.active)

-- what a cell holds for the active instance of a ticket, its own changes aside
abbrev pub held_for : BookView → TicketView → Cell → Option (Option ℤ)
held_for v t cell = option_map (λ i. row_at (state_in v i.start) cell) (active_at v t)

-- the rows of a region for the active instance of a ticket, its own changes aside
abbrev pub rows_for : BookView → TicketView → Region → Option TableState
rows_for v t region = option_map (λ i. rows_in region (state_in v i.start)) (active_at v t)

-- the active instances but for that of a number
abbrev pub without : ℕ → List (ℕ × Instance) → List (ℕ × Instance)
without number = remove_entry (is_at (nat_cmp number))

-- the least of a number and the starts of active instances
abbrev pub least_start : ℕ → List (ℕ × Instance) → ℕ
least_start n [] = n
least_start n (entry ∷ entries) = min entry.1.start (least_start n entries)

-- the floor is where the active instances begin, or all commits
abbrev pub vacuumed : BookView → BookView
vacuumed v = record v { floor = least_start (length v.rows) v.active }

-- ---- begins

-- no begin succeeds where endings and active instances are as many together
abbrev pub most_endings : ℕ
most_endings = 100000

-- no more begins than these succeed
abbrev pub most_begins : ℕ
most_begins = 2 ^ 64 - 1

-- there are as many instances, or as many begins have succeeded, as may be
abbrev pub is_full : BookView → Bool
is_full v = nat_le most_endings (length v.endings + length v.active) || nat_le most_begins v.begun

-- why no instance can begin, whatever it is
abbrev pub full_fault : BookView → Option BeginFault
full_fault v = if is_full v then Some Full else None

-- why no instance can begin at a number: a vacuum gave the number up, or there are not so many commits
abbrev pub start_fault : BookView → (start : ℕ) → Option BeginFault
start_fault v start =
    if nat_lt start v.floor then Some (TooOld v.floor)
    else if nat_lt (length v.rows) start then Some (TooNew (length v.rows))
    else None

-- what is wrong with a begin at a number, of a program that was found, or not
abbrev pub fault_at : BookView → (start : ℕ) → Option Program → List ℤ → Option BeginFault
fault_at v start None args = Some NoSuchProgram
fault_at v start (Some p) args =
    if not (length p.params.items == length args) then Some WrongArguments
    else option_or (start_fault v start) (full_fault v)

-- what is wrong with a begin at a number
abbrev pub begin_at_fault_of : BookView → (start program : ℕ) → List ℤ → Option BeginFault
begin_at_fault_of v start program args =
    fault_at v start (slice_get v.set.programs.items program) args

-- what is wrong with a begin at the newest number, of a program that was found, or not
abbrev pub fault_by : BookView → Option Program → List ℤ → Option BeginFault
fault_by v None args = Some NoSuchProgram
fault_by v (Some p) args =
    if not (length p.params.items == length args) then Some WrongArguments
    else full_fault v

-- what is wrong with a begin at the newest number; the number itself is never at fault
abbrev pub begin_fault_of : BookView → ℕ → List ℤ → Option BeginFault
begin_fault_of v program args = fault_by v (slice_get v.set.programs.items program) args

-- The begin is refused by just this fault. Want of memory comes where there is none.
abbrev pub IsBeginRefusedBy : {X : Type 0} → Option BeginFault → Result X BeginFault → Type 0
IsBeginRefusedBy fault (Ok x) = fault ≡ None
IsBeginRefusedBy fault (Err Memory) = fault ≡ None
IsBeginRefusedBy fault (Err found) = fault ≡ Some found

-- the ticket of the next begin, at a number
abbrev pub ticket_at : BookView → (start : ℕ) → TicketView
ticket_at v start = record { number = v.begun; start = start }

-- its instance
abbrev pub instance_at : (start program : ℕ) → List ℤ → Instance
instance_at start program args = record { program = program; args = args; start = start }

-- an instance was begun at a number
abbrev pub begun_at : BookView → (start program : ℕ) → List ℤ → BookView
begun_at v start program args =
    let i : Instance = instance_at start program args in
    record v { active = v.active ++ (v.begun, i) ∷ []; begun = v.begun + 1 }

-- the ticket of the next begin, at the newest number
abbrev pub next_ticket : BookView → TicketView
next_ticket v = ticket_at v (length v.rows)

-- its instance
abbrev pub next_instance : BookView → ℕ → List ℤ → Instance
next_instance v program args = instance_at (length v.rows) program args

-- an instance was begun at the newest number
abbrev pub begun_in : BookView → ℕ → List ℤ → BookView
begun_in v program args = begun_at v (length v.rows) program args
