-- Counting on, and comparing counts.
use Rattle.std.proofs.Common.{◌≡◌, ℕ, suc, ◌<◌, ◌+◌, ◌↔◌, subst, arith}
use Rattle.dep_graph.specs.Counting.{IsCountOf, none, counted, passed}

pub IsCountOf-counted : (P : ℕ → Type 0) (n count : ℕ) → P n → IsCountOf P n count → IsCountOf P (n + 1) (count + 1)
IsCountOf-counted P n count p c =
    let next : suc n ≡ n + 1 = omega arith in
    let more : suc count ≡ count + 1 = omega arith in
    subst (λ m. IsCountOf P m (count + 1)) next (subst (λ k. IsCountOf P (suc n) k) more (counted p c))

pub IsCountOf-passed : (P : ℕ → Type 0) (n count : ℕ) → (P n → ⊥) → IsCountOf P n count → IsCountOf P (n + 1) count
IsCountOf-passed P n count p c =
    let next : suc n ≡ n + 1 = omega arith in
    subst (λ m. IsCountOf P m count) next (passed p c)

-- what is so of the same numbers has the same count
pub IsCountOf-same : (P Q : ℕ → Type 0) (n count : ℕ) → ((k : ℕ) → k < n → P k ↔ Q k) → IsCountOf P n count → IsCountOf Q n count
IsCountOf-same P Q _ _ same none = none
IsCountOf-same P Q _ _ same (counted {n = n} p c) = counted ((same n (omega arith)).0 p) (IsCountOf-same P Q n _ (λ k l. same k (omega arith)) c)
IsCountOf-same P Q _ _ same (passed {n = n} p c) = passed (λ q. p ((same n (omega arith)).1 q)) (IsCountOf-same P Q n _ (λ k l. same k (omega arith)) c)
