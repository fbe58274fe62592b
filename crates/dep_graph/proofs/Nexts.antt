-- What is so of nodes that a node is joined to, found from one to the next.
use Rattle.std.proofs.Common.{◌≡◌, ℕ, ◌<◌, ◌≤◌, ◌+◌, ◌⊎◌, inl, inr, [], ◌∷◌, refl, sym, subst, arith}
use Rattle.std.proofs.lemmas.Bool.{cases_lt}
use Rattle.order_facts.specs.Square.{Grid, Joins}
use Rattle.prog_paths.specs.StaticGraph.{IsAtMost}
use Rattle.order_facts.specs.Words.{IsNextJoined}
use Rattle.dep_graph.specs.Triple.{ClosesAt, IsLeastEnd, IsLeastPair}

module _ (P : ℕ → Type 0) (s : Grid) (from start : ℕ) (joined : (n : ℕ) → P n → Joins s from n) (before : (n : ℕ) → n < start → ¬ P n) where
  pub next-is_least : (to : ℕ) → IsNextJoined s from start to → (n : ℕ) → P n → to ≤ n
  next-is_least to next n p = go (cases_lt n start)
    where
      go : (n < start) ⊎ (start ≤ n) → to ≤ n
      go (inl l) = absurd (before n l p)
      go (inr l) = next.least n l (joined n p)

  pub next-passed : (to : ℕ) → IsNextJoined s from start to → ¬ P to → (n : ℕ) → n < to + 1 → ¬ P n
  next-passed to next here n l p =
      let least = next-is_least to next n p in
      let e : n ≡ to = omega arith in
      here (subst P e p)

  pub none-left : ((to : ℕ) → start ≤ to → ¬ Joins s from to) → (n : ℕ) → ¬ P n
  none-left none n p = go (cases_lt n start)
    where
      go : (n < start) ⊎ (start ≤ n) → ⊥
      go (inl l) = before n l p
      go (inr l) = none n l (joined n p)

-- ---- dangerous structures

-- a structure is closed behind x and y
abbrev pub ClosesBehind : Grid → Grid → ℕ → ℕ → Type 0
ClosesBehind vulnerable reach x y = (z : ℕ) × ClosesAt vulnerable reach x y z

pub first-from_behind : (vulnerable reach : Grid) (x y : ℕ) → ClosesBehind vulnerable reach x y → Joins vulnerable x y
first-from_behind vulnerable reach x y b = b.1.first

two_at_most : (a b c d : ℕ) → a ≤ c → (a ≡ c → b ≤ d) → IsAtMost (a ∷ b ∷ []) (c ∷ d ∷ [])
two_at_most a b c d l then = go (cases_lt a c)
  where
    last : b ≤ d → (b < d) ⊎ (d ≤ b) → IsAtMost (b ∷ []) (d ∷ [])
    last m (inl k) = inl k
    last m (inr k) = let f : b ≡ d = omega arith in inr (f, tt)

    go : (a < c) ⊎ (c ≤ a) → IsAtMost (a ∷ b ∷ []) (c ∷ d ∷ [])
    go (inl k) = inl k
    go (inr k) = let e : a ≡ c = omega arith in inr (e, last (then e) (cases_lt b d))

pub IsLeastPair-from_next : (vulnerable reach : Grid) (x start y z : ℕ) → IsNextJoined vulnerable x start y → ((n : ℕ) → n < start → ¬ ClosesBehind vulnerable reach x n) → IsLeastEnd vulnerable reach x y z → IsLeastPair vulnerable reach x (record { x = x; y = y; z = z })
IsLeastPair-from_next vulnerable reach x start y z next before end = record {
  behind = refl;
  closes = end.closes;
  least = λ b c closes.
      two_at_most y z b c
      (next-is_least (ClosesBehind vulnerable reach x) vulnerable x start (first-from_behind vulnerable reach x) before y next b (c, closes))
      (λ e. end.least c (subst (λ (n : ℕ). ClosesAt vulnerable reach x n c) (sym e) closes));
}
