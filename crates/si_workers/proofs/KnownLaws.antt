-- The states of a book stay what they were.
use Rattle.std.proofs.Common.{◌∙◌, ℕ, List, [], ◌∷◌, Result, Ok, Err, IfOk, IfErr, subst, sym, arith, length-append}
use Rattle.std.specs.Prelude.{OnOk}
use Rattle.prog_tree.specs.Table.{TableState}
use Rattle.prog_run.specs.View.{RunView}
use Rattle.history_book.proofs.CommitLaws.{state_in-committed}
use Rattle.history_book.specs.Refusals.{IsCommitFault, IsEndFault}
use Rattle.history_book.specs.Runs.{IsAborted, IsCommitted, committed_in}
use Rattle.history_book.specs.Ticket.{TicketView}
use Rattle.history_book.specs.View.{BookView}
use Rattle.history_book.specs.declared.fault.CommitFault.{CommitFault}
use Rattle.history_book.specs.declared.fault.CommitFault.TheVariants as commit
use Rattle.history_book.specs.declared.fault.EndFault.{EndFault}
use Rattle.history_book.specs.declared.fault.EndFault.TheVariants as end
use Rattle.history_book.specs.declared.instances.row.HistoryRow.{HistoryRow}
use Rattle.si_workers.specs.KnownStates.{AreStatesOf}

states-committed : (v : BookView) (number : ℕ) (row : HistoryRow) (states : List TableState) → AreStatesOf v states → AreStatesOf (committed_in v number row) states
states-committed v number row states are n m at =
    let here = are n m at in
    (omega (arith, here.0, length-append v.rows (row ∷ [])), here.1 ∙ sym (state_in-committed v number row n here.0))

-- a call to commit leaves the states that were
pub states-kept-by-commit :
    (old new : BookView) (t : TicketView) (run : RunView) (r : Result ℕ CommitFault) (states : List TableState) →
    IfOk r (IsCommitted old new t run) → IfErr r (IsCommitFault old new t run) → AreStatesOf old states → AreStatesOf new states
states-kept-by-commit old new t run (Ok number) states ok err are = subst (λ (v : BookView). AreStatesOf v states) (sym ok.after) (states-committed old t.number _ states are)
states-kept-by-commit old new t run (Err (commit.Clashed clash)) states ok err are = subst (λ (v : BookView). AreStatesOf v states) (sym err.after) are
states-kept-by-commit old new t run (Err (commit.NoSuchTicket unused)) states ok err are = subst (λ (v : BookView). AreStatesOf v states) (sym err.0.unchanged) are
states-kept-by-commit old new t run (Err (commit.NotReady unused)) states ok err are = subst (λ (v : BookView). AreStatesOf v states) (sym err.0.unchanged) are
states-kept-by-commit old new t run (Err (commit.ForeignRun place unused)) states ok err are = subst (λ (v : BookView). AreStatesOf v states) (sym err.0.unchanged) are
states-kept-by-commit old new t run (Err (commit.Memory unused)) states ok err are = subst (λ (v : BookView). AreStatesOf v states) (sym err.0.unchanged) are

-- so does one to end
pub states-kept-by-end :
    (old new : BookView) (t : TicketView) (run : RunView) (r : Result (Unit {0}) EndFault) (states : List TableState) →
    OnOk r (IsAborted old new t run) → IfErr r (IsEndFault old new t run) → AreStatesOf old states → AreStatesOf new states
states-kept-by-end old new t run (Ok done) states ok err are = subst (λ (v : BookView). AreStatesOf v states) (sym ok.after) are
states-kept-by-end old new t run (Err (end.NoSuchTicket unused)) states ok err are = subst (λ (v : BookView). AreStatesOf v states) (sym err.0.unchanged) are
states-kept-by-end old new t run (Err (end.NotAborted unused)) states ok err are = subst (λ (v : BookView). AreStatesOf v states) (sym err.0.unchanged) are
states-kept-by-end old new t run (Err (end.ForeignRun place unused)) states ok err are = subst (λ (v : BookView). AreStatesOf v states) (sym err.0.unchanged) are
states-kept-by-end old new t run (Err (end.Memory unused)) states ok err are = subst (λ (v : BookView). AreStatesOf v states) (sym err.0.unchanged) are
