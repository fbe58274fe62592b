-- How many steps a node is from a chain's end: a chain need only pass through ends of facts.
use Rattle.std.proofs.Common.{◌≡◌, ℕ, zero, suc, ◌+◌, ◌<◌, ◌≤◌, List, [], ◌∷◌, length, true, false, ◌⊎◌, inl, inr, refl, subst, arith}
use Rattle.std.proofs.lemmas.Int.{ints}
use Rattle.std.proofs.lemmas.Bool.{cases_lt, cases_Bool}
use Rattle.order_facts.specs.declared.steps.Node.{Node}
use Rattle.order_facts.specs.declared.steps.Fact.{Fact}
use Rattle.order_facts.specs.Chain.{IsPlainStep, IsStep, IsChainFrom, IsChain, IsTight, RunsBetween, last_of}
use Rattle.order_facts.specs.Reaches.{reaches}
use Rattle.order_facts.specs.Search.{IsEnd}
use Rattle.order_facts.proofs.Reach.{floor-ceiling}
use Rattle.order_facts.proofs.Chains.{Chained-from_reaches}

-- what may stand inside a chain to y
abbrev pub IsCandidate : List Fact → Node → Node → Type 0
IsCandidate facts y u = IsEnd facts u ⊎ (u ≡ y)

-- a chain of at most n steps leads from x to y, through ends of facts
abbrev pub IsWithin : List Fact → Node → ℕ → Node → Type 0
IsWithin facts y zero x = x ≡ y
IsWithin facts y (suc n) x = IsWithin facts y n x ⊎ ((u : Node) × IsCandidate facts y u × IsStep facts x u × IsWithin facts y n u)

plain_trans : (u z w : Node) → IsPlainStep u z → IsPlainStep z w → IsPlainStep u w
plain_trans u z w a b = let m = floor-ceiling z in omega (arith, ints)

module _ (facts : List Fact) (y : Node) where
  pub within-end : (n : ℕ) → IsWithin facts y n y
  within-end zero = refl
  within-end (suc n) = inl (within-end n)

  pub within-le : (m n : ℕ) (x : Node) → m ≤ n → IsWithin facts y m x → IsWithin facts y n x
  within-le m zero x h w = let e : m ≡ zero = omega arith in subst (λ k. IsWithin facts y k x) e w
  within-le m (suc n) x h w = go (cases_lt n m) (within-le m n x)
    where
      go : (n < m) ⊎ (m ≤ n) → (m ≤ n → IsWithin facts y m x → IsWithin facts y n x) → IsWithin facts y (suc n) x
      go (inl l) less = let e : m ≡ suc n = omega arith in subst (λ k. IsWithin facts y k x) e w
      go (inr l) less = inl (less l w)

  -- every chain from z to y is as long as the search's, or longer
  pub within-chain : (rest : List Node) (z : Node) → IsChainFrom facts z rest → last_of z rest ≡ y → IsWithin facts y (length rest) z
  within-chain [] z c e = e
  within-chain (w ∷ []) z c e = inr (w, inr e, c.0, e)
  within-chain (w ∷ v ∷ rest) z c e = go c.0 c.1.0 (within-chain (v ∷ rest) w c.1 e) (λ p. within-chain (v ∷ rest) z (inr p, c.1.1) e)
    where
      go : IsStep facts z w → IsStep facts w v → IsWithin facts y (length (v ∷ rest)) w → (IsPlainStep z v → IsWithin facts y (length (v ∷ rest)) z) → IsWithin facts y (length (w ∷ v ∷ rest)) z
      go (inl f) second on skip = inr (w, inl (record { lo = z; hi = w }, f, inr refl), inl f, on)
      go (inr p) (inl f) on skip = inr (w, inl (record { lo = w; hi = v }, f, inl refl), inr p, on)
      go (inr p) (inr q) on skip = inl (skip (plain_trans z w v p q))

  -- where y is more than n steps away, a chain has more nodes
  pub longer-chain : (n : ℕ) (x : Node) → (IsWithin facts y n x → ⊥) → (other : List Node) → IsChain facts other → RunsBetween x y other → n + 2 ≤ length other
  longer-chain n x far [] c r = absurd c
  longer-chain n x far (a ∷ rest) c r = go (cases_lt n (length rest))
    where
      w : IsWithin facts y (length rest) x
      w = subst (λ (u : Node). IsWithin facts y (length rest) u) r.0 (within-chain rest a c r.1)

      go : (n < length rest) ⊎ (length rest ≤ n) → n + 2 ≤ length (a ∷ rest)
      go (inl l) = omega arith
      go (inr l) = absurd (far (within-le (length rest) n x l w))

  -- how many steps some chain from x takes, where one exists
  unfoldable pub rank : (x : Node) → (reaches facts x y ≡ true) ⊎ (reaches facts x y ≡ false) → ℕ
  rank x (inl e) = length (Chained-from_reaches facts x y e).0
  rank x (inr e) = 0

abbrev pub rank_of : List Fact → Node → Node → ℕ
rank_of facts x y = rank facts y x (cases_Bool (reaches facts x y))

-- ---- chains with the fewest nodes

module _ (facts : List Fact) (y : Node) where
  tight-from : (a : Node) (rest : List Node) → IsChainFrom facts a rest → last_of a rest ≡ y → ((other : List Node) → IsChainFrom facts a other → last_of a other ≡ y → length rest ≤ length other) → IsTight (a ∷ rest)
  tight-from a [] c e few = tt
  tight-from a (b ∷ []) c e few = tt
  tight-from a (b ∷ d ∷ rest) c e few = (
    λ p. let shorter = few (d ∷ rest) (inr (plain_trans a b d p.0 p.1), c.1.1) e in absurd (omega (arith, shorter)),
    tight-from b (d ∷ rest) c.1 e (λ other o l. let longer = few (b ∷ other) (c.0, o) l in omega (arith, longer)),
  )

pub IsTight-from_fewest : (facts : List Fact) (x y : Node) (chain : List Node) → IsChain facts chain → RunsBetween x y chain → ((other : List Node) → IsChain facts other → RunsBetween x y other → length chain ≤ length other) → IsTight chain
IsTight-from_fewest facts x y [] c r few = absurd c
IsTight-from_fewest facts x y (a ∷ rest) c r few = tight-from facts y a rest c r.1 (λ other o l. let longer = few (a ∷ other) o (r.0, l) in omega (arith, longer))
