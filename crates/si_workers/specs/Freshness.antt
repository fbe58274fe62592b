-- Begins that have to see a commit, and begins at a number.
use Rattle.std.specs.Prelude.{◌≡◌, ℕ, ◌+◌, ◌<◌, ◌≤◌, ℤ, List, length, Some, None, Result, Ok, Err, ⊤}
use Rattle.history_book.specs.Ticket.{TicketView}
use Rattle.history_book.specs.View.{BookView, begin_fault_of, next_ticket, begun_in}
use Rattle.history_book.specs.declared.fault.BeginFault.{BeginFault}
use Rattle.history_book.specs.declared.fault.BeginFault.TheVariants as begin
use Rattle.si_workers.specs.declared.fault.BeginAfterFault.{BeginAfterFault}
use Rattle.si_workers.specs.declared.fault.BeginAfterFault.TheVariants.{Behind, Refused}

-- a begin that names no number is not refused for one
abbrev pub IsOfNoNumber : BeginFault → Type 0
IsOfNoNumber (begin.TooOld floor) = ⊥
IsOfNoNumber (begin.TooNew commits) = ⊥
IsOfNoNumber other = ⊤

-- the instance sees the commit, or the book has fewer commits
abbrev pub IsFresh : (commit : ℕ) → Result TicketView BeginAfterFault → Type 0
IsFresh commit (Ok ticket) = commit ≤ ticket.start
IsFresh commit (Err (Behind commits)) = commits < commit
IsFresh commit (Err (Refused fault)) = IsOfNoNumber fault

-- the instance sees the commits up to the number; or a vacuum gave the number up, or there are fewer commits
abbrev pub IsAtNumber : (start : ℕ) → Result TicketView BeginFault → Type 0
IsAtNumber start (Ok ticket) = ticket.start ≡ start
IsAtNumber start (Err (begin.TooOld floor)) = start < floor
IsAtNumber start (Err (begin.TooNew commits)) = commits < start
IsAtNumber start (Err fault) = ⊤

-- a begin was counted, and nothing else is left of it
abbrev pub begun_and_withdrawn : BookView → BookView
begun_and_withdrawn v = record v { begun = v.begun + 1 }

-- a begin, and where it doesn't see the commit its withdrawal
abbrev pub IsBeginAfter : (old new : BookView) → (program : ℕ) → List ℤ → Result TicketView BeginAfterFault → Type 0
IsBeginAfter old new program args (Ok ticket) =
    (begin_fault_of old program args ≡ None) × (ticket ≡ next_ticket old) × (new ≡ begun_in old program args)
IsBeginAfter old new program args (Err (Behind commits)) =
    (begin_fault_of old program args ≡ None) × (commits ≡ length old.rows) × (new ≡ begun_and_withdrawn old)
IsBeginAfter old new program args (Err (Refused begin.Memory)) =
    (begin_fault_of old program args ≡ None) × (new ≡ old)
IsBeginAfter old new program args (Err (Refused fault)) =
    (begin_fault_of old program args ≡ Some fault) × (new ≡ old)
