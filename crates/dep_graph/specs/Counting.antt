-- How many of the numbers below a bound are so.
use Rattle.std.specs.Prelude.{ℕ}
use Rattle.std.proofs.Common.{zero, suc}

-- so many of the numbers below a bound are P: each one counts or is passed over
pub data IsCountOf (P : ℕ → Type 0) : ℕ → ℕ → Type 0 where
  none : IsCountOf P zero zero
  counted : {n count : ℕ} → P n → IsCountOf P n count → IsCountOf P (suc n) (suc count)
  passed : {n count : ℕ} → (P n → ⊥) → IsCountOf P n count → IsCountOf P (suc n) count
