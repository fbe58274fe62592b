-- Calls that end an instance, by what is handed in and what is answered alone: of a book that threads
-- share, no clause names more.
use Rattle.std.specs.Prelude.{◌≡◌, ◌≢◌, ℕ, ◌<◌, Some, Result, Ok, Err}
use Rattle.prog_tree.specs.declared.deed.End.TheVariants.{Ready}
use Rattle.prog_run.specs.View.{RunView}
use Rattle.history_book.specs.Refusals.{HasAborted, IsHandedBack}
use Rattle.history_book.specs.Ticket.{TicketView}
use Rattle.history_book.specs.declared.fault.CommitFault.{CommitFault}
use Rattle.history_book.specs.declared.fault.CommitFault.TheVariants as commit
use Rattle.history_book.specs.declared.fault.EndFault.{EndFault}
use Rattle.history_book.specs.declared.fault.EndFault.TheVariants as end

-- an instance commits or clashes by a run that is ready, and commits are numbered from 1; else both are handed back
abbrev pub IsCommitAnswer : TicketView → RunView → Result ℕ CommitFault → Type 0
IsCommitAnswer t run (Ok number) = (run.end ≡ Some Ready) × (0 < number)
IsCommitAnswer t run (Err (commit.Clashed clash)) = run.end ≡ Some Ready
IsCommitAnswer t run (Err (commit.NoSuchTicket unused)) = IsHandedBack t run unused
IsCommitAnswer t run (Err (commit.NotReady unused)) = IsHandedBack t run unused × (run.end ≢ Some Ready)
IsCommitAnswer t run (Err (commit.ForeignRun place unused)) = IsHandedBack t run unused × (run.end ≡ Some Ready)
IsCommitAnswer t run (Err (commit.Memory unused)) = IsHandedBack t run unused × (run.end ≡ Some Ready)

-- an instance ends as an aborted one by a run that has aborted; else both are handed back
abbrev pub IsEndAnswer : TicketView → RunView → Result (Unit {0}) EndFault → Type 0
IsEndAnswer t run (Ok done) = HasAborted run
IsEndAnswer t run (Err (end.NoSuchTicket unused)) = IsHandedBack t run unused
IsEndAnswer t run (Err (end.NotAborted unused)) = IsHandedBack t run unused × (HasAborted run → ⊥)
IsEndAnswer t run (Err (end.ForeignRun place unused)) = IsHandedBack t run unused × HasAborted run
IsEndAnswer t run (Err (end.Memory unused)) = IsHandedBack t run unused × HasAborted run
