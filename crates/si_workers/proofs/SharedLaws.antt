-- What the contracts of a book say of the arguments and the results of its calls alone.
use Rattle.std.proofs.Common.{◌≡◌, ℕ, ◌==◌, Bool, true, false, not, cond, List, length, Option, Some, None, Result, Ok, Err, IfOk, IfErr, sym, subst, arith}
use Rattle.std.proofs.lemmas.List.Elements.{filter_passes}
use Rattle.std.specs.Option.{option_map}
use Rattle.std.specs.Prelude.{ℤ, OnOk}
use Rattle.prog_tree.specs.declared.cell.Region.{Region}
use Rattle.prog_tree.specs.declared.program.Program.{Program}
use Rattle.prog_tree.specs.Table.{TableState, is_in, rows_in}
use Rattle.prog_run.specs.View.{RunView}
use Rattle.history_book.specs.Refusals.{IsCommitFault, IsEndFault, IsRegionRead, IsWithdrawal}
use Rattle.history_book.specs.Runs.{IsAborted, IsCommitted}
use Rattle.history_book.specs.Ticket.{TicketView}
use Rattle.history_book.specs.View.{BookView, active_at, begin_fault_of, fault_by, full_fault, is_full, rows_for, state_in, IsBeginRefusedBy}
use Rattle.history_book.specs.declared.fault.BeginFault.{BeginFault}
use Rattle.history_book.specs.declared.fault.BeginFault.TheVariants as begin
use Rattle.history_book.specs.declared.fault.CommitFault.{CommitFault}
use Rattle.history_book.specs.declared.fault.CommitFault.TheVariants as commit
use Rattle.history_book.specs.declared.fault.EndFault.{EndFault}
use Rattle.history_book.specs.declared.fault.EndFault.TheVariants as end
use Rattle.history_book.specs.declared.fault.ScanFault.{ScanFault}
use Rattle.history_book.specs.History.{Instance}
use Rattle.si_workers.specs.Freshness.{IsOfNoNumber}
use Rattle.si_workers.specs.HandedIn.{IsCommitAnswer, IsEndAnswer}
use Rattle.job_worker.specs.KnownStates.{AreRowsOf}

-- ---- begins

full-of-no-number : (v : BookView) (fault : BeginFault) → full_fault v ≡ Some fault → IsOfNoNumber fault
full-of-no-number v fault is = go (is_full v) is
  where
    go : (b : Bool) → cond b (Some begin.Full) None ≡ Some fault → IsOfNoNumber fault
    go true e = let same : begin.Full ≡ fault = cc in rw (sym same) tt
    go false e = absurd (cc)

found-of-no-number : (v : BookView) (found : Option Program) (args : List ℤ) (fault : BeginFault) → fault_by v found args ≡ Some fault → IsOfNoNumber fault
found-of-no-number v None args fault is = let same : begin.NoSuchProgram ≡ fault = cc in rw (sym same) tt
found-of-no-number v (Some p) args fault is = go (not (length p.params.items == length args)) is
  where
    go : (b : Bool) → cond b (Some begin.WrongArguments) (full_fault v) ≡ Some fault → IsOfNoNumber fault
    go true e = let same : begin.WrongArguments ≡ fault = cc in rw (sym same) tt
    go false e = full-of-no-number v fault e

-- a begin at the newest number is refused by no number
pub newest-of-no-number :
    (v : BookView) (program : ℕ) (args : List ℤ) (r : Result TicketView BeginFault) →
    IsBeginRefusedBy (begin_fault_of v program args) r → IfErr r IsOfNoNumber
newest-of-no-number v program args (Ok t) refused = tt
newest-of-no-number v program args (Err begin.Memory) refused = tt
newest-of-no-number v program args (Err begin.NoSuchProgram) refused = tt
newest-of-no-number v program args (Err begin.WrongArguments) refused = tt
newest-of-no-number v program args (Err begin.Full) refused = tt
newest-of-no-number v program args (Err (begin.TooOld floor)) refused = found-of-no-number v _ args (begin.TooOld floor) refused
newest-of-no-number v program args (Err (begin.TooNew commits)) refused = found-of-no-number v _ args (begin.TooNew commits) refused

-- ---- reads

-- rows that are read for a ticket are of the region
pub read-of-region :
    (v : BookView) (t : TicketView) (region : Region) (r : Result TableState ScanFault) →
    IsRegionRead (rows_for v t region) r → IfOk r (AreRowsOf region)
read-of-region v t region r read = go (active_at v t) r read
  where
    go : (found : Option Instance) (answer : Result TableState ScanFault) →
        IsRegionRead (option_map (λ i. rows_in region (state_in v i.start)) found) answer → IfOk answer (AreRowsOf region)
    go None (Ok rows) is = absurd (cc)
    go None (Err fault) is = tt
    go (Some i) (Ok rows) is =
        subst (AreRowsOf region) (sym is) (filter_passes (λ row. is_in region row.0) (state_in v i.start))
    go (Some i) (Err fault) is = tt

-- ---- commits, ends and withdrawals

pub commit-answered :
    (old new : BookView) (t : TicketView) (run : RunView) (r : Result ℕ CommitFault) →
    IfOk r (IsCommitted old new t run) → IfErr r (IsCommitFault old new t run) → IsCommitAnswer t run r
commit-answered old new t run (Ok number) ok err = (ok.ready, omega (arith, ok.number))
commit-answered old new t run (Err (commit.Clashed clash)) ok err = err.ready
commit-answered old new t run (Err (commit.NoSuchTicket unused)) ok err = err.0.handed_back
commit-answered old new t run (Err (commit.NotReady unused)) ok err = (err.0.handed_back, err.2)
commit-answered old new t run (Err (commit.ForeignRun place unused)) ok err = (err.0.handed_back, err.1)
commit-answered old new t run (Err (commit.Memory unused)) ok err = (err.0.handed_back, err.1)

pub end-answered :
    (old new : BookView) (t : TicketView) (run : RunView) (r : Result (Unit {0}) EndFault) →
    OnOk r (IsAborted old new t run) → IfErr r (IsEndFault old new t run) → IsEndAnswer t run r
end-answered old new t run (Ok done) ok err = (ok.cause, ok.aborted)
end-answered old new t run (Err (end.NoSuchTicket unused)) ok err = err.0.handed_back
end-answered old new t run (Err (end.NotAborted unused)) ok err = (err.0.handed_back, err.2)
end-answered old new t run (Err (end.ForeignRun place unused)) ok err = (err.0.handed_back, err.1)
end-answered old new t run (Err (end.Memory unused)) ok err = (err.0.handed_back, err.1)

pub withdrawn-back :
    (old new : BookView) (t : TicketView) (r : Result (Unit {0}) TicketView) →
    IsWithdrawal old new t r → IfErr r (λ back. back ≡ t)
withdrawn-back old new t (Ok done) withdrawn = tt
withdrawn-back old new t (Err ticket) withdrawn = withdrawn.1
