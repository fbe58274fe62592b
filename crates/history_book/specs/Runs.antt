-- Runs of a book's instances, and what calls with them leave.
use Rattle.std.specs.Prelude.{◌≡◌, ℕ, ◌+◌, List, [], ◌∷◌, ◌++◌, length, take, Some, None, slice_get}
use Rattle.prog_tree.specs.declared.deed.Cause.{Cause}
use Rattle.prog_tree.specs.declared.deed.End.TheVariants.{Ready, Aborted}
use Rattle.prog_tree.specs.declared.look.Look.{Look}
use Rattle.prog_tree.specs.ChangeSet.{ChangeSet}
use Rattle.prog_tree.specs.Table.{TableState}
use Rattle.prog_tree.specs.Tree.{draft_tree, program_tree}
use Rattle.prog_run.specs.declared.next.Next.{Next}
use Rattle.prog_run.specs.Cursor.{BeginsWith}
use Rattle.prog_run.specs.Looks.{IsFound, AreFound}
use Rattle.prog_run.specs.Step.{question_after, deeds_after, changes_after, end_after}
use Rattle.prog_run.specs.View.{RunView, IsTrueRun, SameBegin}
use Rattle.version_store.specs.Clash.{IsClash}
use Rattle.version_store.specs.Told.{clash_pair}
use Rattle.version_store.specs.declared.clash.Clash.{Clash}
use Rattle.history_book.specs.History.{Instance, IsCalled}
use Rattle.history_book.specs.Ticket.{TicketView}
use Rattle.history_book.specs.TrueBook.{IsTrueRow}
use Rattle.history_book.specs.View.{BookView, instance_of, history_of, row_of, commits_in, state_in, done_in, active_at, without}
use Rattle.history_book.specs.declared.fault.Difference.{Difference}
use Rattle.history_book.specs.declared.fault.Difference.TheVariants as difference
use Rattle.history_book.specs.declared.instances.row.Ending.{Ending}
use Rattle.history_book.specs.declared.instances.row.Ending.TheVariants as ending
use Rattle.history_book.specs.declared.instances.row.HistoryRow.{HistoryRow}

-- ---- runs

-- the run has the instance's program, its arguments, and the tables of the set
pub record SameProgram (v : BookView) (i : Instance) (run : RunView) : Type 0 where
  pub tables : run.tables ≡ v.set.tables.items
  pub program : slice_get (draft_tree v.set).programs i.program ≡ Some (program_tree run.program)
  pub args : run.args ≡ i.args

-- the run is one of the instance: all that it looked at is what the instance's snapshot holds
pub record IsOwnRun (v : BookView) (i : Instance) (run : RunView) : Type 0 where
  pub same : SameProgram v i run
  pub found : AreFound (state_in v i.start) run.looks

-- the look of a number is the first that did not find what a table state holds
pub record IsFirstForeign (m : TableState) (looks : List Look) (number : ℕ) : Type 0 where
  pub found : AreFound m (take number looks)
  pub look : Look
  pub at : slice_get looks number ≡ Some look
  pub foreign : IsFound m look → ⊥

-- where the run differs from each of the instance
abbrev pub IsForeign : BookView → Instance → RunView → Difference → Type 0
IsForeign v i run difference.Program = SameProgram v i run → ⊥
IsForeign v i run (difference.Look number) =
    SameProgram v i run × IsFirstForeign (state_in v i.start) run.looks number

-- the run went on through one deed, or to its end, and asks nothing
pub record StepsTo (next : Next) (old new : RunView) : Type 0 where
  pub idle : question_after next ≡ None
  pub deeds : new.deeds ≡ deeds_after next old.deeds
  pub changes : new.changes ≡ changes_after next old.changes
  pub replies : BeginsWith old.replies new.replies
  pub asked : new.asked ≡ None
  pub end : new.end ≡ end_after next

-- the run finished nothing, and has not ended
pub record StopsShort (old new : RunView) : Type 0 where
  pub deeds : new.deeds ≡ old.deeds
  pub changes : new.changes ≡ old.changes
  pub replies : BeginsWith old.replies new.replies
  pub end : new.end ≡ old.end

-- the run is true, begun as before, and found what the table state holds
pub record StaysOwn (m : TableState) (old new : RunView) : Type 0 where
  pub found : AreFound m new.looks
  pub true_run : IsTrueRun new
  pub same : SameBegin old new

-- ---- what calls leave

-- the active instance of a number has ended so
abbrev pub ended_in : BookView → ℕ → Ending → BookView
ended_in v number e = record v { endings = v.endings ++ e ∷ []; active = without number v.active }

-- the active instance of a number has committed, as the next
abbrev pub committed_in : BookView → ℕ → HistoryRow → BookView
committed_in v number row =
    record v {
      rows = v.rows ++ row ∷ [];
      endings = v.endings ++ ending.Committed (length v.rows + 1) ∷ [];
      active = without number v.active;
    }

-- the active instance of a number was withdrawn
abbrev pub withdrawn_in : BookView → ℕ → BookView
withdrawn_in v number = record v { active = without number v.active }

-- the row of an instance, as its evaluation says
abbrev pub row_in : BookView → Instance → HistoryRow
row_in v i = row_of i (done_in v i).replies

-- the row's instance may commit: the row and the changes are what its evaluation says, it is ready, and no
-- commit above its start touched what it changes or keeps
pub record IsCommit (v : BookView) (row : HistoryRow) (w : ChangeSet) : Type 0 where
  pub is_true : IsTrueRow (draft_tree v.set) v.opening (history_of v.rows) row
  pub ready : (done_in v (instance_of row)).ending ≡ Ready
  pub changes : w ≡ (done_in v (instance_of row)).changes
  pub apart : IsClash (commits_in v) row.start w None

-- the ticket's instance committed: its run is one of it and ready, and no commit above its start touched what
-- it changes or keeps
pub record IsCommitted (old new : BookView) (t : TicketView) (run : RunView) (receipt : ℕ) : Type 0
  where
    pub instance : Instance
    pub active : active_at old t ≡ Some instance
    pub ready : run.end ≡ Some Ready
    pub own : IsOwnRun old instance run
    pub apart : IsClash (commits_in old) instance.start (done_in old instance).changes None
    pub number : receipt ≡ length old.rows + 1
    pub after : new ≡ committed_in old t.number (row_in old instance)

-- the ticket's instance clashed, which is kept as its ending
pub record IsClashed (old new : BookView) (t : TicketView) (run : RunView) (clash : Clash) : Type 0
  where
    pub instance : Instance
    pub active : active_at old t ≡ Some instance
    pub ready : run.end ≡ Some Ready
    pub own : IsOwnRun old instance run
    pub clashed :
        IsClash (commits_in old) instance.start (done_in old instance).changes (Some (clash_pair clash))
    pub after : new ≡ ended_in old t.number (ending.Clashed (row_in old instance) clash)

-- the ticket's instance ended as an aborted one
pub record IsAborted (old new : BookView) (t : TicketView) (run : RunView) : Type 0 where
  pub instance : Instance
  pub active : active_at old t ≡ Some instance
  pub cause : Cause
  pub aborted : run.end ≡ Some (Aborted cause)
  pub own : IsOwnRun old instance run
  pub after : new ≡ ended_in old t.number (ending.Aborted (row_in old instance) cause)

-- the row is that of the ticket's instance, which the run is one of, with the run's replies
pub record IsEndedRow (v : BookView) (t : TicketView) (run : RunView) (row : HistoryRow) : Type 0
  where
    pub instance : Instance
    pub active : active_at v t ≡ Some instance
    pub own : IsOwnRun v instance run
    pub is : row ≡ row_of instance run.replies
    pub called : IsCalled (draft_tree v.set) instance
