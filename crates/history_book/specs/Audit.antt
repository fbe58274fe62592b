-- The audit of given rows, and runs that are made again.
use Rattle.std.specs.Prelude.{◌≡◌, ◌≢◌, ℕ, ◌+◌, ◌<◌, ◌≤◌, List, [], ◌∷◌, ◌++◌, length, map, take, Some, None, slice_get}
use Rattle.std.specs.List.{range_with_len}
use Rattle.prog_tree.specs.declared.deed.End.TheVariants.{Ready}
use Rattle.prog_tree.specs.declared.program.Draft.{Draft}
use Rattle.prog_tree.specs.Evaluation.{Evaluation}
use Rattle.prog_tree.specs.Syntax.{ProgramTree, DraftTree}
use Rattle.prog_tree.specs.Table.{TableState}
use Rattle.prog_tree.specs.Tree.{draft_tree}
use Rattle.prog_run.specs.View.{RunView}
use Rattle.version_store.specs.Clash.{IsClash}
use Rattle.version_store.specs.Told.{clash_pair}
use Rattle.history_book.specs.History.{Instance, commits_of, evaluation, IsCalled}
use Rattle.history_book.specs.TrueBook.{IsTrueRow}
use Rattle.history_book.specs.View.{BookView, instance_of, history_of, most_endings}
use Rattle.history_book.specs.declared.audit.AuditFault.{AuditFault}
use Rattle.history_book.specs.declared.audit.AuditFault.TheVariants as audit
use Rattle.history_book.specs.declared.audit.RowFault.{RowFault}
use Rattle.history_book.specs.declared.audit.RowFault.TheVariants as row
use Rattle.history_book.specs.declared.instances.row.Ending.TheVariants.{Committed}
use Rattle.history_book.specs.declared.instances.row.HistoryRow.{HistoryRow}

-- the run is over, and it came to just this
pub record CameTo (run : RunView) (e : Evaluation) : Type 0 where
  pub ends : run.end ≡ Some e.ending
  pub replies : run.replies ≡ e.replies
  pub changes : run.changes ≡ e.changes
  pub looks : run.looks ≡ e.looks

-- a book of these rows, each of which was begun and has committed
abbrev pub audited : Draft → TableState → List HistoryRow → BookView
audited set opening rows =
    record {
      set = set;
      opening = opening;
      rows = rows;
      endings = map Committed (range_with_len 1 (length rows));
      active = [];
      begun = length rows;
      floor = 0;
    }

-- a book in which the instance of a row was begun, and has committed as the next
abbrev pub taken_up : BookView → HistoryRow → BookView
taken_up v r =
    record v {
      rows = v.rows ++ r ∷ [];
      endings = v.endings ++ Committed (length v.rows + 1) ∷ [];
      begun = v.begun + 1;
    }

-- a row behind a history
module _ (set : DraftTree) (opening : TableState) (h : List Instance) (r : HistoryRow) where
  -- what its instance does on the state that it sees
  abbrev pub done_by : Evaluation
  done_by = evaluation set opening h (instance_of r)

  -- it is called rightly, and sees commits of the history
  pub record CanBegin : Type 0 where
    pub called : IsCalled set (instance_of r)
    pub start : r.start ≤ length h

  -- it may be the next commit: it has the replies of its evaluation, which is ready, and no commit above its start
  -- changed or kept a cell that it changes or keeps
  pub record IsRightRow : Type 0 where
    pub is_true : IsTrueRow set opening h r
    pub ready : done_by.ending ≡ Ready
    pub apart : IsClash (commits_of set opening h) r.start done_by.changes None

  -- what is wrong with it; the first that applies
  abbrev pub IsRowFault : RowFault → Type 0
  IsRowFault row.NoSuchProgram = slice_get set.programs r.program ≡ None
  IsRowFault row.WrongArguments =
      (p : ProgramTree) × (slice_get set.programs r.program ≡ Some p) × (length p.params ≢ length r.args)
  IsRowFault row.StartTooLate = IsCalled set (instance_of r) × (length h < r.start)
  IsRowFault row.NotReady = CanBegin × (done_by.ending ≢ Ready)
  IsRowFault row.WrongReplies = CanBegin × (done_by.ending ≡ Ready) × (r.replies ≢ done_by.replies)
  IsRowFault (row.Clashed clash) =
      IsTrueRow set opening h r × (done_by.ending ≡ Ready)
      × IsClash (commits_of set opening h) r.start done_by.changes (Some (clash_pair clash))

-- the same behind the commits of a book
abbrev pub CanBeginIn : BookView → HistoryRow → Type 0
CanBeginIn v r = CanBegin (draft_tree v.set) v.opening (history_of v.rows) r

abbrev pub IsRightIn : BookView → HistoryRow → Type 0
IsRightIn v r = IsRightRow (draft_tree v.set) v.opening (history_of v.rows) r

abbrev pub IsRowFaultIn : BookView → HistoryRow → RowFault → Type 0
IsRowFaultIn v r = IsRowFault (draft_tree v.set) v.opening (history_of v.rows) r

module _ (set : DraftTree) (opening : TableState) where
  -- each row may be the next commit behind a history with the rows before it
  abbrev pub AreRightBehind : List Instance → List HistoryRow → Type 0
  AreRightBehind h [] = Unit {0}
  AreRightBehind h (r ∷ rows) =
      IsRightRow set opening h r × AreRightBehind (h ++ instance_of r ∷ []) rows

  -- the row of a number, which counts from 0, is the first that is wrong
  pub record IsWrongAt (rows : List HistoryRow) (number : ℕ) (fault : RowFault) : Type 0 where
    pub before : AreRightBehind [] (take number rows)
    pub wrong : HistoryRow
    pub at : slice_get rows number ≡ Some wrong
    pub is : IsRowFault set opening (history_of (take number rows)) wrong fault

  -- why rows have no book; the first that applies, want of memory last
  abbrev pub IsAuditFault : List HistoryRow → AuditFault → Type 0
  IsAuditFault rows audit.Full = most_endings < length rows
  IsAuditFault rows (audit.Row number fault) =
      (length rows ≤ most_endings) × IsWrongAt rows number fault
  IsAuditFault rows audit.Memory = length rows ≤ most_endings

-- why a row is not taken up behind those of a book
abbrev pub IsRowRefusal : BookView → HistoryRow → AuditFault → Type 0
IsRowRefusal v r audit.Full = ⊥
IsRowRefusal v r (audit.Row number fault) = (number ≡ length v.rows) × IsRowFaultIn v r fault
IsRowRefusal v r audit.Memory = Unit {0}
