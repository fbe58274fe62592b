-- Which commits may have missed a change of one that committed before them.
use Rattle.std.specs.Prelude.{◌≡◌, ◌⊎◌, ℕ, ◌+◌, ◌*◌, ◌%◌, ◌^◌, ◌<◌, ◌≤◌, true, Bool, List, length, nat_lt, if◌then◌else◌, slice_index, unsigned_abs}
use Rattle.prog_tree.specs.declared.cell.Cell.{Cell}
use Rattle.prog_tree.specs.Table.{is_cell_among}
use Rattle.serial_orders.specs.declared.trace.Sight.{Sight}
use Rattle.serial_orders.specs.Nearby.{is_marked}
use Rattle.serial_orders.specs.Orders.{IsUpTo}
use Rattle.serial_orders.specs.TraceView.{TraceView}
use Rattle.serial_orders.specs.Traces.{changed_at, takes_in, trace_at, trace_depends}

-- the slot of a cell among so many
abbrev pub slot_of : ℕ → Cell → ℕ
slot_of slots c = (unsigned_abs c.first % 2 ^ 32 + unsigned_abs c.second % 2 ^ 32 * 31) % slots

-- what stands at the slot of a cell
abbrev pub slot_at : List ℕ → Cell → ℕ
slot_at slots c = slice_index slots (slot_of (length slots) c)

-- a look that saw the commits up to `start` saw what stands at the slots of the cells that it takes in, or so many
abbrev pub IsSeenAt : List ℕ → (count start : ℕ) → Sight → Type 0
IsSeenAt slots count start s = (c : Cell) → takes_in s c ≡ true → (slot_at slots c ≤ start) ⊎ (count ≤ start)

-- a number was entered at the slots of some cells, and none became less
pub record EntersAll (cells : List Cell) (number : ℕ) (old new : List ℕ) : Type 0 where
  pub long : length new ≡ length old
  pub more : (n : ℕ) → slice_index old n ≤ slice_index new n
  pub entered : (c : Cell) → is_cell_among cells c ≡ true → number ≤ slot_at new c

-- each of the first commits stands at the slots of the cells that it changed, or a later one does
abbrev pub HasChangers : List TraceView → List ℕ → ℕ → Type 0
HasChangers traces slots count =
    (k : ℕ) (c : Cell) → IsUpTo count k → changed_at (trace_at traces k) c ≡ true → k ≤ slot_at slots c

-- for each number from 0 on, a mark where its commit has to stand before an earlier one
pub record TellLate (traces : List TraceView) (late : List Bool) : Type 0 where
  pub long : length late ≡ length traces + 1
  pub told :
      (i j : ℕ) → IsUpTo (length traces) i → IsUpTo i j → trace_depends traces i j ≡ true → is_marked late i ≡ true

-- for each number from 0 on, and one more, a number from there on, such that none between them has a mark
pub record AreNextMarked (marks : List Bool) (next : List ℕ) : Type 0 where
  pub long : length next ≡ length marks + 1
  pub after : (n : ℕ) → n ≤ length marks → n ≤ slice_index next n
  pub whole : (n i : ℕ) → n ≤ i → i < length marks → is_marked marks i ≡ true → slice_index next n ≤ i

-- for each number from 0 on, and one more, a number from there on, such that no commit between them has to stand before
-- an earlier one
pub record AreNextLate (traces : List TraceView) (next : List ℕ) : Type 0 where
  pub long : length next ≡ length traces + 2
  pub after : (n : ℕ) → n ≤ length traces + 1 → n ≤ slice_index next n
  pub whole :
      (n i j : ℕ) → n ≤ i → IsUpTo (length traces) i → IsUpTo i j → trace_depends traces i j ≡ true → slice_index next n ≤ i

-- the first number from one on that is less than another, or is that of a late commit
abbrev pub first_tested : List ℕ → (from n : ℕ) → ℕ
first_tested next from n = if nat_lt from n then from else slice_index next from
