-- Laws of lists whose numbers rise.
use Rattle.std.proofs.Common.{ℕ, zero, suc, ◌+◌, ◌<◌, ◌≤◌, List, [], ◌∷◌, length, get_or, arith}
use Rattle.std.specs.List.Sorted.{IsNonDecreasingBy}
use Rattle.version_store.specs.Reading.{RisesBy, IsNumberCut}

-- what rises from a number rises from a lesser one
pub rises_more : {A : Type 0} (number : A → ℕ) (n k : ℕ) (xs : List A) → n ≤ k → RisesBy number k xs → RisesBy number n xs
rises_more number n k [] less rises = tt
rises_more number n k (x ∷ xs) less rises = (omega (arith, rises.0), rises.1)

least_risen : {A : Type 0} (number : A → ℕ) (n : ℕ) (xs : List A) (j : ℕ) (d : A) → RisesBy number n xs → j < length xs → n ≤ number (get_or xs j d)
least_risen number n [] j d rises within = absurd (omega arith)
least_risen number n (x ∷ xs) zero d rises within = rises.0
least_risen number n (x ∷ xs) (suc j) d rises within = omega (arith, least_risen number (number x + 1) xs j d rises.1 (omega arith), rises.0)

-- what rises doesn't fall
pub risen : {A : Type 0} (number : A → ℕ) (n : ℕ) (xs : List A) → RisesBy number n xs → IsNonDecreasingBy number xs
risen number n [] rises i j d order within = absurd (omega arith)
risen number n (x ∷ xs) rises zero zero d order within = omega arith
risen number n (x ∷ xs) rises zero (suc j) d order within = omega (arith, least_risen number (number x + 1) xs j d rises.1 (omega arith))
risen number n (x ∷ xs) rises (suc i) zero d order within = absurd (omega arith)
risen number n (x ∷ xs) rises (suc i) (suc j) d order within = risen number (number x + 1) xs rises.1 i j d (omega arith) (omega arith)

-- a cut of the rest, where the first is before it, and where none is
pub cut_rest : {A : Type 0} (number : A → ℕ) (n : ℕ) (x : A) (xs : List A) (r : ℕ) → IsNumberCut number n (x ∷ xs) (suc r) → IsNumberCut number n xs r
cut_rest number n x xs r cut = (λ k d low high. cut.0 (suc k) d (omega arith) (omega arith), λ k d low high. cut.1 (suc k) d (omega arith) (omega arith))

pub cut_none : {A : Type 0} (number : A → ℕ) (n : ℕ) (x : A) (xs : List A) → IsNumberCut number n (x ∷ xs) 0 → IsNumberCut number n xs 0
cut_none number n x xs cut = (λ k d low high. absurd (omega arith), λ k d low high. cut.1 (suc k) d (omega arith) (omega arith))
