-- What each commit looked at and changed, and what of it depends on what.
use Rattle.std.specs.Prelude.{◌≡◌, ◌≤◌, ℕ, zero, suc, Bool, not, ◌&&◌, List, [], map, Some, slice_get, unwrap_or}
use Rattle.std.specs.List.{list_any}
use Rattle.prog_tree.specs.declared.cell.Cell.{Cell}
use Rattle.prog_tree.specs.declared.look.Look.{Look}
use Rattle.prog_tree.specs.declared.look.Look.TheVariants as look
use Rattle.prog_tree.specs.ChangeSet.{ChangedCells}
use Rattle.prog_tree.specs.Table.{cells_of, is_same_cell, is_cell_among, is_in}
use Rattle.serial_orders.specs.TraceView.{TraceView}
use Rattle.serial_orders.specs.declared.trace.Sight.{Sight}
use Rattle.serial_orders.specs.declared.trace.Sight.TheVariants as sight
use Rattle.serial_orders.specs.DependsBy.{Part, changes_again_by, sees_change_by, misses_change_by, depends_by}

-- a look without what it found
abbrev pub sight_of : Look → Sight
sight_of (look.One cell held) = sight.One cell
sight_of (look.Range region own rows) = sight.Range region own

-- the trace of an instance by its start, its changes and its looks
abbrev pub trace_of : ℕ → ChangedCells → List Look → TraceView
trace_of start changes looks =
    record { start = start; changed = cells_of changes; looked = map sight_of looks }

-- a sight of a region takes in each of its cells, present or absent, but for those that the instance had changed
abbrev pub takes_in : Sight → Cell → Bool
takes_in (sight.One cell) c = is_same_cell cell c
takes_in (sight.Range region own) c = is_in region c && not (is_cell_among own c)

-- the commit looked at the cell
abbrev pub looked_at : TraceView → Cell → Bool
looked_at t c = list_any (λ s. takes_in s c) t.looked

-- the commit changed the cell
abbrev pub changed_at : TraceView → Cell → Bool
changed_at t c = is_cell_among t.changed c

-- nothing was looked at or changed
abbrev pub no_trace : TraceView
no_trace = record { start = 0; changed = []; looked = [] }

-- the trace of a commit number, or one of nothing; numbers begin at 1
abbrev pub trace_at : List TraceView → ℕ → TraceView
trace_at traces zero = no_trace
trace_at traces (suc n) = unwrap_or (slice_get traces n) no_trace

-- each commit saw only earlier ones
abbrev pub SeesEarlier : List TraceView → Type 0
SeesEarlier traces = (n : ℕ) (t : TraceView) → slice_get traces n ≡ Some t → t.start ≤ n

-- a commit changed a cell of which something holds
abbrev pub some_changed : (Cell → Bool) → TraceView → Bool
some_changed p t = list_any p t.changed

module _ (traces : List TraceView) where
  -- the part of a commit number in the order of commits
  abbrev pub part_of : ℕ → Part
  part_of n =
      record {
        start = (trace_at traces n).start;
        changes = changed_at (trace_at traces n);
        looks = looked_at (trace_at traces n);
        changes_some = λ p. some_changed p (trace_at traces n);
      }

  abbrev pub changes_again : ℕ → ℕ → Bool
  changes_again i j = changes_again_by part_of i j

  abbrev pub sees_change : ℕ → ℕ → Bool
  sees_change i j = sees_change_by part_of i j

  abbrev pub misses_change : ℕ → ℕ → Bool
  misses_change i j = misses_change_by part_of i j

  abbrev pub trace_depends : ℕ → ℕ → Bool
  trace_depends i j = depends_by part_of i j
