-- What holds of every book.
use Rattle.std.specs.Prelude.{◌≡◌, ℕ, ◌+◌, ◌<◌, ◌≤◌, All, List, [], ◌∷◌, length, take, Some}
use Rattle.std.specs.List.{range_with_len}
use Rattle.std.specs.List.Sorted.{IsStrictlySortedBy}
use Rattle.std.specs.Map.{keys_of}
use Rattle.std.specs.Ordering.{nat_cmp}
use Rattle.prog_tree.specs.declared.deed.Cause.{Cause}
use Rattle.prog_tree.specs.declared.deed.End.TheVariants.{Ready, Aborted}
use Rattle.prog_tree.specs.Syntax.{DraftTree}
use Rattle.prog_tree.specs.Table.{TableState}
use Rattle.prog_tree.specs.Tree.{draft_tree}
use Rattle.version_store.specs.Clash.{IsClash}
use Rattle.version_store.specs.StandsFor.{StoreView, StandsFor}
use Rattle.version_store.specs.Told.{clash_pair}
use Rattle.version_store.specs.declared.clash.Clash.{Clash}
use Rattle.history_book.specs.History.{Instance, commits_of, evaluation, IsCalled, IsLawful}
use Rattle.serial_orders.specs.TraceView.{TraceView}
use Rattle.history_book.specs.View.{BookView, instance_of, history_of, commits_in, traces_in, most_endings}
use Rattle.history_book.specs.declared.instances.row.Ending.{Ending}
use Rattle.history_book.specs.declared.instances.row.Ending.TheVariants as ending
use Rattle.history_book.specs.declared.instances.row.HistoryRow.{HistoryRow}

module _ (set : DraftTree) (opening : TableState) (h : List Instance) where
  -- the row is of an instance that sees commits of the history, and has the replies of its evaluation
  pub record IsTrueRow (row : HistoryRow) : Type 0 where
    pub called : IsCalled set (instance_of row)
    pub start : row.start ≤ length h
    pub replies : row.replies ≡ (evaluation set opening h (instance_of row)).replies

  -- its instance was ready, and the clash is that of what it writes with the commits at some time
  pub record IsTrueClash (row : HistoryRow) (clash : Clash) : Type 0 where
    pub ready : (evaluation set opening h (instance_of row)).ending ≡ Ready
    pub commits : ℕ
    pub within : commits ≤ length h
    pub clashed :
        IsClash (take commits (commits_of set opening h)) row.start
        (evaluation set opening h (instance_of row)).changes (Some (clash_pair clash))

  -- the row and the cause are its instance's
  pub record IsTrueAbort (row : HistoryRow) (cause : Cause) : Type 0 where
    pub ending : (evaluation set opening h (instance_of row)).ending ≡ Aborted cause

  -- an ending says how its instance ended; the numbers of commits are told by `committed`
  abbrev pub IsTrueEnding : Ending → Type 0
  IsTrueEnding (ending.Committed number) = Unit {0}
  IsTrueEnding (ending.Clashed row clash) = IsTrueRow row × IsTrueClash row clash
  IsTrueEnding (ending.Aborted row cause) = IsTrueRow row × IsTrueAbort row cause

-- the numbers of the endings that are commits, in order
abbrev pub committed : List Ending → List ℕ
committed [] = []
committed (ending.Committed number ∷ endings) = number ∷ committed endings
committed (ending.Clashed row clash ∷ endings) = committed endings
committed (ending.Aborted row cause ∷ endings) = committed endings

-- an active instance is called rightly, sees commits from the floor on, and was begun
pub record IsTrueActive (v : BookView) (entry : ℕ × Instance) : Type 0 where
  pub called : IsCalled (draft_tree v.set) entry.1
  pub floor : v.floor ≤ entry.1.start
  pub start : entry.1.start ≤ length v.rows
  pub number : entry.0 < v.begun

-- the history is lawful, its rows have the replies of evaluation, and the endings are true
pub record IsTrueBook (v : BookView) : Type 0 where
  pub lawful : IsLawful (draft_tree v.set) v.opening (history_of v.rows)
  pub rows : All (IsTrueRow (draft_tree v.set) v.opening (history_of v.rows)) v.rows
  pub endings : All (IsTrueEnding (draft_tree v.set) v.opening (history_of v.rows)) v.endings
  -- the commits are numbered from 1, in the order in which they ended
  pub numbered : committed v.endings ≡ range_with_len 1 (length v.rows)
  pub active : All (IsTrueActive v) v.active
  pub by_number : IsStrictlySortedBy nat_cmp (keys_of v.active)
  pub floor : v.floor ≤ length v.rows
  pub few : length v.endings + length v.active ≤ most_endings

-- a store has just the commits of the book
pub record IsStored (v : BookView) (store : StoreView) : Type 0 where
  pub stands : StandsFor store v.opening (commits_in v)
  pub commits : store.commits ≡ length v.rows

-- a true book, whose store has its commits, and whose traces are those of its commits
abbrev pub IsWholeBook : BookView → StoreView → List TraceView → Type 0
IsWholeBook v store traces = IsTrueBook v × IsStored v store × (traces ≡ traces_in v)
