-- What a run asks its snapshot, and what its looks found there.
use Rattle.std.specs.Prelude.{◌≡◌, ◌-◌, List, [], ◌∷◌, length, slice_get, Option, Some, None, is_some, if◌then◌else◌}
use Rattle.prog_tree.specs.declared.cell.Cell.{Cell}
use Rattle.prog_tree.specs.declared.cell.Region.{Region}
use Rattle.prog_tree.specs.declared.look.Look.{Look}
use Rattle.prog_tree.specs.declared.look.Look.TheVariants as look
use Rattle.prog_tree.specs.declared.progress.Progress.{Progress}
use Rattle.prog_tree.specs.Table.{TableState, row_at}
use Rattle.prog_tree.specs.ChangeSet.{ChangeSet, change_at}
use Rattle.prog_tree.specs.Evaluation.{rows_without, rows_left, own_cells, rows_seen}
use Rattle.prog_run.specs.declared.next.Next.{Next}
use Rattle.prog_run.specs.declared.next.Next.TheVariants.{Get, Scan}
use Rattle.prog_run.specs.Task.{AskedTree, OfCell, OfRegion, TaskTree}
use Rattle.prog_run.specs.Task as task

-- the last look, if there is one
abbrev pub last_look : List Look → Option Look
last_look looks = slice_get looks (length looks - 1)

-- a look found what the table state holds
abbrev pub IsFound : TableState → Look → Type 0
IsFound m (look.One cell held) = row_at m cell ≡ held
IsFound m (look.Range region own rows) = rows_left region own m ≡ rows

-- all looks found what a table state holds
abbrev pub AreFound : TableState → List Look → Type 0
AreFound m [] = Unit {0}
AreFound m (l ∷ ls) = IsFound m l × AreFound m ls

-- the rows that the last look found, where it was at just this region and left no cells out
abbrev pub IsFoundLast : List Look → Region → Option TableState → Type 0
IsFoundLast looks region (Some rows) = last_look looks ≡ Some (look.Range region [] rows)
IsFoundLast looks region None = (rows : TableState) → last_look looks ≡ Some (look.Range region [] rows) → ⊥

-- where the looks of q found what a table state holds, those of p did
abbrev pub FoundBefore : Progress → Progress → Type 0
FoundBefore p q = (m : TableState) → AreFound m q.looks → AreFound m p.looks

-- what a statement that looks at a cell asks: nothing where the run has changed the cell
abbrev pub asked_for : ChangeSet → Cell → Option Next
asked_for changes cell = if is_some (change_at changes cell) then None else Some (Get cell)

-- what a look asks
abbrev pub question_of : AskedTree → Next
question_of (OfCell cell usage) = Get cell
question_of (OfRegion region usage) = Scan region

-- what a task asks; those that change a cell ask nothing
abbrev pub asked_by : ChangeSet → TaskTree → Option Next
asked_by changes (task.Ask (OfCell cell usage)) = asked_for changes cell
asked_by changes (task.Ask (OfRegion region usage)) = Some (Scan region)
asked_by changes _ = None

-- a look at a region, of a run with these changes, that found these rows; those of the cells that it had changed are
-- left out
abbrev pub region_look : ChangeSet → Region → TableState → Look
region_look changes region rows =
    let own = own_cells region changes.cells in look.Range region own (rows_without own rows)

-- the rows that such a run sees there, by its own changes
abbrev pub seen_rows : ChangeSet → Region → TableState → TableState
seen_rows changes region rows = rows_seen region changes.cells (rows_without (own_cells region changes.cells) rows)
