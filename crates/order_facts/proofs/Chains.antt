-- A chain is a way by steps: it shows that its first node reaches its last, and there is one wherever a node reaches another.
use Rattle.std.proofs.Common.{◌≡◌, ◌↔◌, ℕ, Bool, List, [], ◌∷◌, ◌++◌, true, ◌⊎◌, ◌≤ℤ◌, inl, inr, refl, sym, subst, ap, ◌∙◌, arith, length, get_or, ◌<◌, ◌≤◌, ◌+◌, ◌-◌, suc, zero}
use Rattle.std.proofs.lemmas.Bool.{cases_lt}
use Rattle.std.proofs.lemmas.List.{get_or_default}
use Rattle.prog_tree.proofs.Elements.{member_from_contains}
use Rattle.order_facts.specs.declared.steps.Node.{Node}
use Rattle.order_facts.specs.declared.steps.Fact.{Fact}
use Rattle.order_facts.specs.Chain.{floor_of, ceiling_of, IsStep, IsChainFrom, IsChain, RunsBetween, last_of}
use Rattle.order_facts.specs.declared.steps.Node.TheVariants.{Mine}
use Rattle.order_facts.specs.Reaches.{reaches}
use Rattle.order_facts.proofs.Reach.{is_below-cases, is_below-plain, reaches-cases, reaches-below, reaches-refl, reaches-fact, reaches-trans}

pub step-reaches : (fs : List Fact) (a b : Node) → IsStep fs a b → reaches fs a b ≡ true
step-reaches fs a b (inl c) = reaches-fact fs _ (member_from_contains fs _ c)
step-reaches fs a b (inr h) = reaches-below fs a b (is_below-plain a b h)

pub chain-reaches : (fs : List Fact) (a : Node) (rest : List Node) → IsChainFrom fs a rest → reaches fs a (last_of a rest) ≡ true
chain-reaches fs a [] c = reaches-refl fs a
chain-reaches fs a (b ∷ rest) c = reaches-trans fs _ _ _ (step-reaches fs a b c.0) (chain-reaches fs b rest c.1)

pub IsChainFrom-append : (fs : List Fact) (a : Node) (xs ys : List Node) → IsChainFrom fs a xs → IsChainFrom fs (last_of a xs) ys → IsChainFrom fs a (xs ++ ys)
IsChainFrom-append fs a [] ys c d = d
IsChainFrom-append fs a (x ∷ xs) ys c d = (c.0, IsChainFrom-append fs x xs ys c.1 d)

pub last_of-append : (a : Node) (xs ys : List Node) → last_of a (xs ++ ys) ≡ last_of (last_of a xs) ys
last_of-append a [] ys = refl
last_of-append a (x ∷ xs) ys = last_of-append x xs ys

-- a chain from x that ends at y, told by what stands behind its first node
abbrev pub Chained : List Fact → Node → Node → Type 0
Chained fs x y = (rest : List Node) × IsChainFrom fs x rest × (last_of x rest ≡ y)

pub Chained-trans : (fs : List Fact) (x y z : Node) → Chained fs x y → Chained fs y z → Chained fs x z
Chained-trans fs x y z a b = (a.0 ++ b.0, IsChainFrom-append fs x a.0 b.0 a.1 (rw a.2 b.1), last_of-append x a.0 b.0 ∙ ap (λ (w : Node). last_of w b.0) a.2 ∙ b.2)

Chained-old : (f : Fact) (fs : List Fact) (x : Node) (rest : List Node) → IsChainFrom fs x rest → IsChainFrom (f ∷ fs) x rest
Chained-old f fs x [] c = tt
Chained-old f fs x (b ∷ rest) c = (step c.0, Chained-old f fs b rest c.1)
  where
    step : IsStep fs x b → IsStep (f ∷ fs) x b
    step (inl k) = inl (suc k.0, omega (arith, k.1), k.2)
    step (inr h) = inr h

pub Chained-from_reaches : (fs : List Fact) (x y : Node) → reaches fs x y ≡ true → Chained fs x y
unfolding reaches
Chained-from_reaches [] x y e = go (is_below-cases x y e)
  where
    go : (x ≡ y) ⊎ (ceiling_of x ≤ℤ floor_of y) → Chained [] x y
    go (inl p) = ([], tt, p)
    go (inr h) = (y ∷ [], (inr h, tt), refl)
Chained-from_reaches (f ∷ fs) x y e = go (reaches-cases f fs x y e) (Chained-from_reaches fs x y) (Chained-from_reaches fs x f.lo) (Chained-from_reaches fs f.hi y)
  where
    old : (a b : Node) → Chained fs a b → Chained (f ∷ fs) a b
    old a b c = (c.0, Chained-old f fs a c.0 c.1, c.2)

    go : (reaches fs x y ≡ true) ⊎ ((reaches fs x f.lo ≡ true) × (reaches fs f.hi y ≡ true)) → (reaches fs x y ≡ true → Chained fs x y) → (reaches fs x f.lo ≡ true → Chained fs x f.lo) → (reaches fs f.hi y ≡ true → Chained fs f.hi y) → Chained (f ∷ fs) x y
    go (inl p) whole front back = old x y (whole p)
    go (inr p) whole front back = Chained-trans (f ∷ fs) x f.lo y (old _ _ (front p.0)) (Chained-trans (f ∷ fs) f.lo f.hi y (f.hi ∷ [], (inl (zero, omega arith, refl), tt), refl) (old _ _ (back p.1)))

-- ---- a chain by places
unfoldable pub StepAt : List Fact → List Node → ℕ → Type 0
StepAt facts xs k = IsStep facts (get_or xs k (Mine 0)) (get_or xs (k + 1) (Mine 0))

from-at : (facts : List Fact) (a : Node) (rest : List Node) → ((k : ℕ) → k + 1 < length (a ∷ rest) → StepAt facts (a ∷ rest) k) → IsChainFrom facts a rest
unfolding StepAt
from-at facts a [] h = tt
from-at facts a (b ∷ rest) h = (h 0 (omega arith), from-at facts b rest (λ k l. rw (one k) at (h (suc k) (omega arith))))
  where
    one : (k : ℕ) → suc k + 1 ≡ suc (k + 1)
    one k = omega arith

at-from : (facts : List Fact) (a : Node) (rest : List Node) → IsChainFrom facts a rest → (k : ℕ) → k + 1 < length (a ∷ rest) → StepAt facts (a ∷ rest) k
unfolding StepAt
at-from facts a [] c k h = absurd (omega arith)
at-from facts a (b ∷ rest) c zero h = c.0
at-from facts a (b ∷ rest) c (suc k) h = rw (one k) (at-from facts b rest c.1 k (omega arith))
  where
    one : (k : ℕ) → suc k + 1 ≡ suc (k + 1)
    one k = omega arith

pub IsChain-from_at : (facts : List Fact) (xs : List Node) → 0 < length xs → ((k : ℕ) → k + 1 < length xs → StepAt facts xs k) → IsChain facts xs
IsChain-from_at facts [] h s = absurd (omega arith)
IsChain-from_at facts (a ∷ rest) h s = from-at facts a rest s

pub at-from_IsChain : (facts : List Fact) (xs : List Node) → IsChain facts xs → (k : ℕ) → k + 1 < length xs → StepAt facts xs k
at-from_IsChain facts [] c k h = absurd c
at-from_IsChain facts (a ∷ rest) c k h = at-from facts a rest c k h

-- what the call at i says of the place i - 1
pub step_at : (facts : List Fact) (xs : List Node) (i : ℕ) (d e : Node) (r : Bool) → 1 ≤ i → i < length xs → ((r ≡ true) ↔ IsStep facts (get_or xs (i - 1) d) (get_or xs i e)) → (r ≡ true) ↔ StepAt facts xs (i - 1)
unfolding StepAt
step_at facts xs i d e r one h s =
    let back : i - 1 + 1 ≡ i = omega arith in
    rw (back, get_or_default xs (i - 1) (Mine 0) d (omega arith), get_or_default xs i (Mine 0) e h) s

pub step_more : (facts : List Fact) (xs : List Node) (i k : ℕ) → 1 ≤ i → k + 1 < i + 1 → ((n : ℕ) → n + 1 < i → StepAt facts xs n) → StepAt facts xs (i - 1) → StepAt facts xs k
step_more facts xs i k one h before here = go (cases_lt (k + 1) i)
  where
    go : (k + 1 < i) ⊎ (i ≤ k + 1) → StepAt facts xs k
    go (inl l) = before k l
    go (inr l) = let e : i - 1 ≡ k = omega arith in subst (λ n. StepAt facts xs n) e here

-- one more node behind a chain
pub IsChain-push : (facts : List Fact) (xs : List Node) (x z w : Node) → IsChain facts xs → RunsBetween x z xs → IsStep facts z w → IsChain facts (xs ++ w ∷ []) × RunsBetween x w (xs ++ w ∷ [])
IsChain-push facts [] x z w c r s = absurd c
IsChain-push facts (a ∷ rest) x z w c r s = (IsChainFrom-append facts a rest (w ∷ []) c (subst (λ (n : Node). IsStep facts n w) (sym r.1) s, tt), (r.0, last_of-append a rest (w ∷ [])))

-- a chain from x to y shows that x reaches y
pub reaches-from_chain : (fs : List Fact) (x y : Node) (nodes : List Node) → IsChain fs nodes → RunsBetween x y nodes → reaches fs x y ≡ true
reaches-from_chain fs x y [] c r = absurd c
reaches-from_chain fs x y (a ∷ rest) c r = subst (λ (n : Node). reaches fs x n ≡ true) r.1 (subst (λ (n : Node). reaches fs n (last_of a rest) ≡ true) r.0 (chain-reaches fs a rest c))
