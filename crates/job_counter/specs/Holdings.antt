-- What passes hold, and the account that they keep together.
use Rattle.std.specs.Prelude.{◌≡◌, ℕ, ◌+◌, ◌-◌, ◌<◌, ◌≤◌, ◌==◌, ◌^◌, nat_lt, if◌then◌else◌, List, [], ◌∷◌, ◌++◌, length, sum_by, count_by, flat_map, Contains}
use Rattle.job_counter.specs.declared.holding.Holding.{Holding}

-- how often x stands in the list
abbrev pub times : ℕ → List ℕ → ℕ
times x xs = count_by (λ y. y == x) xs

-- the numbers below n, each once, in any order
abbrev pub AreEachOnceBelow : List ℕ → ℕ → Type 0
AreEachOnceBelow xs n = (x : ℕ) → times x xs ≡ (if nat_lt x n then 1 else 0)

-- no number stands twice
abbrev pub AreDistinct : List ℕ → Type 0
AreDistinct xs = (x : ℕ) → times x xs ≤ 1

-- how many draws the passes have left
abbrev pub left_of_all : List Holding → ℕ
left_of_all passes = sum_by (λ p. p.left) passes

-- the numbers that the passes hold, one pass after the other
abbrev pub numbers_of_all : List Holding → List ℕ
numbers_of_all passes = flat_map (λ p. p.numbers) passes

-- The account of all passes, of which n numbers were drawn: these and the draws left are the
-- budget, and the numbers below n are held, each once, by one pass
pub record IsAccount (budget n : ℕ) (passes : List Holding) : Type 0 where
  pub drawn : length (numbers_of_all passes) ≡ n
  pub adds_up : length (numbers_of_all passes) + left_of_all passes ≡ budget
  pub once : AreEachOnceBelow (numbers_of_all passes) n

-- what one of the passes holds that keep such an account together
abbrev pub IsInAccount : ℕ → ℕ → Holding → Type 0
IsInAccount budget n pass = (passes : List Holding) × IsAccount budget n passes × Contains passes pass

-- The rule of the counter: its one word is how many numbers were drawn
pub record IsCounterRule (budget : ℕ) (words : List ℕ) (passes : List Holding) : Type 0 where
  pub fits : budget < 2 ^ 64
  pub count : ℕ
  pub word : words ≡ count ∷ []
  pub account : IsAccount budget count passes

-- what a pass holds that has so many draws left, and drew these numbers
abbrev pub holding : ℕ → List ℕ → Holding
holding left numbers = record { left = left; numbers = numbers }

-- what a pass holds once it drew the number
abbrev pub after_draw : Holding → ℕ → Holding
after_draw p number = holding (p.left - 1) (p.numbers ++ number ∷ [])

-- what two passes hold together
abbrev pub both_of : Holding → Holding → Holding
both_of p q = holding (p.left + q.left) (p.numbers ++ q.numbers)
