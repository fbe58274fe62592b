-- What a test of two commits takes, and how far from a commit those stand that may have to stand before it.
use Rattle.std.specs.Prelude.{◌≡◌, ◌≢◌, ◌⊎◌, ℕ, ◌+◌, ◌*◌, ◌<◌, ◌≤◌, true, List, length, slice_index}
use Rattle.serial_orders.specs.Orders.{IsUpTo}
use Rattle.serial_orders.specs.TraceView.{TraceView}
use Rattle.serial_orders.specs.Traces.{trace_at, trace_depends}

-- how many pairs of cells, and of a cell and a look, there are between two commits
abbrev pub pairs_between : TraceView → TraceView → ℕ
pairs_between a b = length a.changed * (length b.changed + length b.looked) + length b.changed * length a.looked

-- for each number from 0 on, a number of a commit, such that no later one has to stand before it
pub record AreHorizons (traces : List TraceView) (horizons : List ℕ) : Type 0 where
  pub long : length horizons ≡ length traces + 1
  pub within : (n : ℕ) → slice_index horizons n ≤ length traces
  pub whole :
      (i j : ℕ) → IsUpTo (length traces) i → IsUpTo (length traces) j →
      trace_depends traces i j ≡ true → i ≤ slice_index horizons j
  -- it is the commit itself, or one that began before it
  pub near :
      (j : ℕ) → IsUpTo (length traces) j →
      (slice_index horizons j ≡ j) ⊎ ((trace_at traces (slice_index horizons j)).start < j)

-- the snapshot of a commit ends right before a number
abbrev pub EndsBefore : List TraceView → (n i : ℕ) → Type 0
EndsBefore traces n i = IsUpTo (length traces) i × ((trace_at traces i).start + 1 ≡ n)

-- for each number from 0 on, the last commit whose snapshot ends right before it, or 0 where there is none
pub record AreLastBegun (traces : List TraceView) (last : List ℕ) : Type 0 where
  pub long : length last ≡ length traces + 1
  pub ends : (n : ℕ) → slice_index last n ≢ 0 → EndsBefore traces n (slice_index last n)
  pub whole : (n i : ℕ) → EndsBefore traces n i → i ≤ slice_index last n

-- at each place the greatest of the place and of the numbers there and before
pub record AreRaised (numbers raised : List ℕ) : Type 0 where
  pub long : length raised ≡ length numbers
  pub own : (n : ℕ) → n < length numbers → n ≤ slice_index raised n
  pub above : (m n : ℕ) → m ≤ n → n < length numbers → slice_index numbers m ≤ slice_index raised n
  pub one :
      (n : ℕ) → n < length numbers →
      (slice_index raised n ≡ n) ⊎ ((m : ℕ) × (m ≤ n) × (slice_index raised n ≡ slice_index numbers m))
