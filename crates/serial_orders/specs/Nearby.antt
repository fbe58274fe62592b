-- What is known while the least order is found by tests of commits that are near each other.
use Rattle.std.specs.Prelude.{◌≡◌, ◌≢◌, ◌≤◌, ◌<◌, ◌+◌, ℕ, Bool, true, false, List, Some, length, slice_index, slice_index_or}
use Rattle.std.specs.List.{range_with_len}
use Rattle.serial_orders.specs.Orders.{is_one_of, is_free, first_free, IsUpTo}
use Rattle.serial_orders.specs.TraceView.{TraceView}
use Rattle.serial_orders.specs.Traces.{trace_depends}
use Rattle.serial_orders.specs.declared.nearby.Waiting.{Waiting}
use Rattle.serial_orders.specs.declared.nearby.Waiting.TheVariants as waiting

-- the number, from 0 on, has a mark
abbrev pub is_marked : List Bool → ℕ → Bool
is_marked marks n = slice_index_or marks n false

-- these are the numbers that have a mark
abbrev pub AreMarked : List ℕ → List Bool → Type 0
AreMarked numbers marks = (n : ℕ) → is_marked marks n ≡ is_one_of numbers n

-- each number from 1 on that is less has a mark
pub record IsMarkedBelow (marks : List Bool) (bound : ℕ) : Type 0 where
  pub first : 1 ≤ bound
  pub marked : (n : ℕ) → 1 ≤ n → n < bound → is_marked marks n ≡ true

-- once the commits that have a mark are placed, this one is free, or is not
abbrev pub IsFreeTest : List TraceView → List Bool → ℕ → Bool → Type 0
IsFreeTest traces marks n free =
    (placed : List ℕ) → AreMarked placed marks
    → is_free (trace_depends traces) (range_with_len 1 (length traces)) placed n ≡ free

-- once the commits that have a mark are placed, this one is the first that is free
abbrev pub IsFirstFree : List TraceView → List Bool → ℕ → Type 0
IsFirstFree traces marks n =
    (placed : List ℕ) → AreMarked placed marks
    → first_free (trace_depends traces) (range_with_len 1 (length traces)) placed (range_with_len 1 (length traces)) ≡ Some n

-- the first is a commit that has to stand before the second
abbrev pub IsHolder : List TraceView → (i n : ℕ) → Type 0
IsHolder traces i n = IsUpTo (length traces) i × (trace_depends traces i n ≡ true)

-- the first is a commit without a mark that has to stand before the second
abbrev pub HoldsBack : List TraceView → List Bool → (i n : ℕ) → Type 0
HoldsBack traces marks i n = (is_marked marks i ≡ false) × IsHolder traces i n

-- each lesser commit that has to stand before this one has a mark
abbrev pub IsTestedBelow : List TraceView → List Bool → (n bound : ℕ) → Type 0
IsTestedBelow traces marks n bound = (i : ℕ) → IsHolder traces i n → i < bound → is_marked marks i ≡ true

-- for each number from 0 on, 0 or the least commit without a mark that had to stand before it when it was tested
pub record AreHolders (traces : List TraceView) (marks : List Bool) (holders : List ℕ) : Type 0 where
  pub long : length holders ≡ length traces + 1
  pub holds : (n : ℕ) → slice_index holders n ≢ 0 → IsHolder traces (slice_index holders n) n
  pub tested : (n : ℕ) → IsTestedBelow traces marks n (slice_index holders n)

-- what a commit waits for while others have no mark
abbrev pub WaitsFor : List TraceView → List Bool → ℕ → Waiting → Type 0
WaitsFor traces marks n (waiting.For i) =
    IsHolder traces i n × (is_marked marks i ≡ false) × IsTestedBelow traces marks n i
WaitsFor traces marks n waiting.Over = (i : ℕ) → IsHolder traces i n → is_marked marks i ≡ true
WaitsFor traces marks n waiting.Unknown = Unit {0}
