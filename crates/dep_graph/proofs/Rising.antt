-- Levels never fall along an edge, and rise where there is no way back.
use Rattle.std.proofs.Common.{◌≡◌, ℕ, suc, ◌<◌, ◌≤◌, ◌⊎◌, inl, inr, sym, subst, arith}
use Rattle.std.proofs.lemmas.Bool.{cases_order}
use Rattle.prog_paths.specs.StaticGraph.{Leads, here, onward}
use Rattle.dep_graph.specs.Counting.{IsCountOf, none, counted, passed}
use Rattle.dep_graph.proofs.Closing.{Leads-trans}

-- what holds of no more numbers has no greater count
pub count-le : (P Q : ℕ → Type 0) (n c d : ℕ) → ((k : ℕ) → k < n → P k → Q k) → IsCountOf P n c → IsCountOf Q n d → c ≤ d
count-le P Q _ _ _ within none none = omega arith
count-le P Q _ _ _ within (counted {n = n} p c) (counted q d) = let i = count-le P Q n _ _ (λ k l. within k (omega arith)) c d in omega arith
count-le P Q _ _ _ within (counted {n = n} p c) (passed q d) = absurd (q (within n (omega arith) p))
count-le P Q _ _ _ within (passed {n = n} p c) (counted q d) = let i = count-le P Q n _ _ (λ k l. within k (omega arith)) c d in omega arith
count-le P Q _ _ _ within (passed {n = n} p c) (passed q d) = count-le P Q n _ _ (λ k l. within k (omega arith)) c d

-- the last number is not the one that is missed, so it is below
more : (P : ℕ → Type 0) (n a b w : ℕ) → w < suc n → (P w → ⊥) → P n → (w < n → a < b) → suc a < suc b
more P n a b w l not p deep = go (cases_order w n)
  where
    go : (w ≡ n) ⊎ ((w < n) ⊎ (n < w)) → suc a < suc b
    go (inl e) = absurd (not (subst (λ k. P k) (sym e) p))
    go (inr (inl m)) = let i = deep m in omega arith
    go (inr (inr m)) = absurd (omega arith)

less : (Q : ℕ → Type 0) (n a b w : ℕ) → w < suc n → Q w → (Q n → ⊥) → (w < n → a < b) → a < b
less Q n a b w l q not deep = go (cases_order w n)
  where
    go : (w ≡ n) ⊎ ((w < n) ⊎ (n < w)) → a < b
    go (inl e) = absurd (not (subst (λ k. Q k) e q))
    go (inr (inl m)) = deep m
    go (inr (inr m)) = absurd (omega arith)

-- and a smaller one where it misses one
pub count-lt : (P Q : ℕ → Type 0) (n c d w : ℕ) → ((k : ℕ) → k < n → P k → Q k) → w < n → Q w → (P w → ⊥) → IsCountOf P n c → IsCountOf Q n d → c < d
count-lt P Q _ _ _ w within l q not none none = absurd (omega arith)
count-lt P Q _ _ _ w within l q not (counted {n = n} p c) (passed r d) = absurd (r (within n (omega arith) p))
count-lt P Q _ _ _ w within l q not (passed {n = n} p c) (counted r d) = let i = count-le P Q n _ _ (λ k l. within k (omega arith)) c d in omega arith
count-lt P Q _ _ _ w within l q not (counted {n = n} {count = a} p c) (counted {count = b} r d) = more P n a b w l not p (λ m. count-lt P Q n a b w (λ k l. within k (omega arith)) m q not c d)
count-lt P Q _ _ _ w within l q not (passed {n = n} {count = a} p c) (passed {count = b} r d) = less Q n a b w l q r (λ m. count-lt P Q n a b w (λ k l. within k (omega arith)) m q not c d)

-- ---- levels

-- what reaches a node reaches whatever an edge leads to from it
pub level-le : (R : ℕ → ℕ → Type 0) (n x y c d : ℕ) → R x y → IsCountOf (λ u. Leads R u x) n c → IsCountOf (λ u. Leads R u y) n d → c ≤ d
level-le R n x y c d e = count-le (λ u. Leads R u x) (λ u. Leads R u y) n c d (λ u l w. Leads-trans w (onward e here))

-- two edges in a row with no way back rise
pub level-lt : (R : ℕ → ℕ → Type 0) (n x y z c d : ℕ) → z < n → R x y → R y z → (Leads R z x → ⊥) → IsCountOf (λ u. Leads R u x) n c → IsCountOf (λ u. Leads R u z) n d → c < d
level-lt R n x y z c d inside e f no_way = count-lt (λ u. Leads R u x) (λ u. Leads R u z) n c d z (λ u l w. Leads-trans w (onward e (onward f here))) inside here no_way
