-- Orders of commits, by what has to stand before what.
use Rattle.std.specs.Prelude.{◌≡◌, ℕ, ◌<◌, ◌≤◌, ◌==◌, zero, suc, Bool, true, false, not, ◌&&◌, ◌||◌, All, List, [], ◌∷◌, ◌++◌, Option, Some, option_and_then, find}
use Rattle.std.specs.List.{list_any, list_all, range_with_len}

-- the number is one of these
abbrev pub is_one_of : List ℕ → ℕ → Bool
is_one_of numbers n = list_any (λ m. m == n) numbers

-- the number is not placed yet, and all that has to stand before it is
abbrev pub is_free : (before : ℕ → ℕ → Bool) → (all placed : List ℕ) → ℕ → Bool
is_free before all placed n =
    not (is_one_of placed n) && list_all (λ i. not (before i n) || is_one_of placed i) all

-- the first of some numbers that is free
abbrev pub first_free : (before : ℕ → ℕ → Bool) → (all placed : List ℕ) → List ℕ → Option ℕ
first_free before all placed = find (is_free before all placed)

-- so many more places, at each the least number that is free there
abbrev pub placed_by : (before : ℕ → ℕ → Bool) → (all : List ℕ) → ℕ → (placed : List ℕ) → Option (List ℕ)
placed_by before all zero placed = Some placed
placed_by before all (suc k) placed =
    option_and_then (λ n. placed_by before all k (placed ++ n ∷ [])) (first_free before all placed all)

-- the numbers from 1 to n, at each place the least one before which all stand that have to; none where some place has
-- no such number
abbrev pub least_order : (before : ℕ → ℕ → Bool) → ℕ → Option (List ℕ)
least_order before n = placed_by before (range_with_len 1 n) n []

-- each of these has to stand before the next, and the last of them before `end`
abbrev pub LeadsTo : (before : ℕ → ℕ → Bool) → List ℕ → (end : ℕ) → Type 0
LeadsTo before [] end = Unit {0}
LeadsTo before (i ∷ []) end = before i end ≡ true
LeadsTo before (i ∷ j ∷ js) end = (before i j ≡ true) × LeadsTo before (j ∷ js) end

-- no number stands twice
abbrev pub IsOnce : List ℕ → Type 0
IsOnce [] = Unit {0}
IsOnce (n ∷ ns) = (is_one_of ns n ≡ false) × IsOnce ns

-- each has to stand before the next, and the last before the first, which is the least; no number stands twice
pub record IsCycle (before : ℕ → ℕ → Bool) (numbers : List ℕ) : Type 0 where
  pub first : ℕ
  pub rest : List ℕ
  pub is : numbers ≡ first ∷ rest
  pub leads : LeadsTo before numbers first
  pub least : All (λ n. first < n) rest
  pub once : IsOnce rest

-- one number has to stand before another by some steps
pub data IsBefore (before : ℕ → ℕ → Bool) : ℕ → ℕ → Type 0 where
  step : (i j : ℕ) → before i j ≡ true → IsBefore before i j
  steps : (i j k : ℕ) → before i j ≡ true → IsBefore before j k → IsBefore before i k

-- none of these has to stand before an earlier one
abbrev pub IsForward : (before : ℕ → ℕ → Bool) → List ℕ → Type 0
IsForward before [] = Unit {0}
IsForward before (i ∷ is) = All (λ j. before j i ≡ false) is × IsForward before is

-- one of the numbers from 1 to n
abbrev pub IsUpTo : (n i : ℕ) → Type 0
IsUpTo n i = (1 ≤ i) × (i ≤ n)

-- of the numbers from 1 to n: what one test says another says too, and the other's pairs follow by steps from the
-- pairs of the first
pub record IsReduced (n : ℕ) (reduced before : ℕ → ℕ → Bool) : Type 0 where
  pub within : (i j : ℕ) → reduced i j ≡ true → IsUpTo n j
  pub sound : (i j : ℕ) → IsUpTo n i → IsUpTo n j → reduced i j ≡ true → before i j ≡ true
  pub whole : (i j : ℕ) → IsUpTo n i → IsUpTo n j → before i j ≡ true → IsBefore reduced i j
