-- What one statement of the store does.
use Rattle.std.specs.Prelude.{◌≡◌, ℤ, [], ◌∷◌, ◌++◌, Option, Some, None}
use Rattle.prog_tree.specs.declared.cell.Cell.{Cell}
use Rattle.prog_tree.specs.declared.cell.Region.{Region}
use Rattle.prog_tree.specs.declared.deed.Deed.{Deed}
use Rattle.prog_tree.specs.declared.deed.Deed.TheVariants.{Put, Removed, Kept}
use Rattle.prog_tree.specs.declared.deed.End.TheVariants.{Ready, Aborted}
use Rattle.prog_tree.specs.declared.look.Look.{Look}
use Rattle.prog_tree.specs.declared.look.Look.TheVariants as look
use Rattle.prog_tree.specs.declared.progress.Progress.{Progress}
use Rattle.prog_tree.specs.ChangeSet.{ChangeSet, with_change, with_kept}
use Rattle.prog_tree.specs.Steps.{looked}
use Rattle.prog_tree.specs.Table.{TableState}
use Rattle.prog_tree.specs.Evaluation.{Flow, GoesOn, Stops}
use Rattle.prog_run.specs.Task.{CellUseTree, RegionUseTree, TaskTree, asked_tree, use_flow, rows_flow, task_flow}
use Rattle.prog_run.specs.Task as task
use Rattle.prog_run.specs.Looks.{asked_by, question_of, region_look, seen_rows}
use Rattle.prog_run.specs.declared.next.Step.{Step}
use Rattle.prog_run.specs.declared.next.Step.TheVariants.{Asks, Did, Over}

-- changes with what a deed changes: a set, removed or kept cell
abbrev pub changes_with : Deed → ChangeSet → ChangeSet
changes_with (Put cell v) changes = with_change changes cell (Some v)
changes_with (Removed cell) changes = with_change changes cell None
changes_with (Kept cell) changes = with_kept changes cell
changes_with _ changes = changes

-- what a run has done so far, with what a deed changes
abbrev pub written_by : Deed → Progress → Progress
written_by deed p = record p { changes = changes_with deed p.changes }

-- what was to be done was done, without a further look or a reply
abbrev pub IsFlow : Flow → Step → Progress → Progress → Type 0
IsFlow f (Asks asked) p q = ⊥
IsFlow f (Did deed) p q =
    (f ≡ GoesOn q) × (q.deeds ≡ p.deeds ++ deed ∷ []) × (q.looks ≡ p.looks)
    × (q.changes ≡ changes_with deed p.changes) × (q.replies ≡ p.replies)
IsFlow f (Over (Aborted cause)) p q =
    (f ≡ Stops cause q) × (q.deeds ≡ p.deeds) × (q.looks ≡ p.looks) × (q.changes ≡ p.changes) × (q.replies ≡ p.replies)
IsFlow f (Over Ready) p q = ⊥

-- a look was noted, and then this was done
abbrev pub IsFlowBehind : Look → (Progress → Flow) → Step → Progress → Progress → Type 0
IsFlowBehind l go step p q = IsFlow (go (looked l p)) step (looked l p) q

-- a statement that asked for a cell was finished with what the cell held
abbrev pub IsCellAnswered : CellUseTree → Cell → Option ℤ → Step → Progress → Progress → Type 0
IsCellAnswered usage cell held step p q = IsFlowBehind (look.One cell held) (use_flow usage cell held) step p q

-- a statement that asked for a region was finished with these rows of the snapshot
abbrev pub IsRegionAnswered : RegionUseTree → Region → TableState → Step → Progress → Progress → Type 0
IsRegionAnswered usage region rows step p q =
    IsFlowBehind (region_look p.changes region rows) (rows_flow usage region (seen_rows p.changes region rows)) step p q

-- a task was begun: it asks and nothing is done, or on every table state it does this
abbrev pub IsBegun : TaskTree → Step → Progress → Progress → Type 0
IsBegun t (Asks asked) p q =
    (q ≡ p) × (t ≡ task.Ask (asked_tree asked)) × (asked_by p.changes t ≡ Some (question_of (asked_tree asked)))
IsBegun t (Did deed) p q = (m : TableState) → IsFlow (task_flow m t p) (Did deed) p q
IsBegun t (Over end) p q = (m : TableState) → IsFlow (task_flow m t p) (Over end) p q
