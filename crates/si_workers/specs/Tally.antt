-- How often keys are noted.
use Rattle.std.specs.Prelude.{◌≡◌, ℕ, ◌+◌, ◌-◌, ◌^◌, min, nat_lt, All, List, length, slice_index_or, Option, None, Some, if◌then◌else◌}
use Rattle.std.specs.BTreeMap.{is_at}
use Rattle.std.specs.Map.{lookup}
use Rattle.std.specs.Option.{unwrap_or}
use Rattle.std.specs.Ordering.{nat_cmp}
use Rattle.std.specs.declared.cmp.Ordering.{Ordering}

-- the greatest u64
abbrev pub most : ℕ
most = 2 ^ 64 - 1

-- how often a key was noted
abbrev pub count_in : {K : Type 0} → (K → K → Ordering) → List (K × ℕ) → K → ℕ
count_in cmp t q = unwrap_or (lookup (is_at (cmp q)) t) 0

-- what a count comes to where another key is noted so many times
abbrev pub more : {K : Type 0} → (K → K → Ordering) → K → ℕ → K → ℕ → ℕ
more cmp key times q count = if is_at (cmp key) q then min (count + times) most else count

-- how often a key is noted by one note of a key, or none
abbrev pub times_noted : {K : Type 0} → (K → K → Ordering) → Option (K × ℕ) → K → ℕ
times_noted cmp None q = 0
times_noted cmp (Some note) q = if is_at (cmp note.0) q then note.1 else 0

-- each key was noted so many times, as far as a u64 can tell
abbrev pub Tallies : {K : Type 0} → (K → K → Ordering) → (K → ℕ) → List (K × ℕ) → Type 0
Tallies {K} cmp times t = (q : K) → count_in cmp t q ≡ min (times q) most

-- each key of one was noted as often in the other
abbrev pub IsCovered : {K : Type 0} → (K → K → Ordering) → (one other : List (K × ℕ)) → Type 0
IsCovered cmp one other = All (λ note. count_in cmp other note.0 ≡ note.1) one

-- each key was noted as often in both
abbrev pub AreSameCounts : {K : Type 0} → (K → K → Ordering) → (one other : List (K × ℕ)) → Type 0
AreSameCounts {K} cmp one other = (q : K) → count_in cmp one q ≡ count_in cmp other q

-- counts of numbers: those of the first ones by their places, those of others with them
pub record NumberCounts : Type 0 where
  pub near : List ℕ
  pub far : List (ℕ × ℕ)

-- how often a number was noted
abbrev pub count_of : NumberCounts → ℕ → ℕ
count_of t q = if nat_lt q (length t.near) then slice_index_or t.near q 0 else count_in nat_cmp t.far q

-- each number was noted so many times, as far as a u64 can tell
abbrev pub TalliesNumbers : (ℕ → ℕ) → NumberCounts → Type 0
TalliesNumbers times t = (q : ℕ) → count_of t q ≡ min (times q) most
