-- The greatest number that the facts force below a node, and the least above it.
use Rattle.std.proofs.Common.{◌≡◌, List, [], ◌∷◌, true, false, cond, ℤ, ◌≤ℤ◌, ◌<ℤ◌, ◌⊎◌, inl, inr, refl, sym, ◌∙◌, arith}
use lib.Signed
use lib.Signed.{≤ℤ_refl}
use Rattle.std.proofs.lemmas.Bool.{false≢true, cases_Bool}
use Rattle.std.proofs.lemmas.Int.{ints, by_lt_z}
use Rattle.prog_tree.proofs.Elements.{IsMember}
use Rattle.order_facts.specs.declared.steps.Node.{Node}
use Rattle.order_facts.specs.declared.steps.Node.TheVariants.{Number}
use Rattle.order_facts.specs.declared.steps.Fact.{Fact}
use Rattle.order_facts.specs.Chain.{floor_of, ceiling_of}
use Rattle.order_facts.specs.Reaches.{is_below, reaches}
use Rattle.order_facts.proofs.Reach.{le_z-true, ≤ℤ-le_z, is_below-cases, is_below-plain, reaches-first, reaches-last, reaches-below, reaches-fact, reaches-trans}

-- ---- order on ℤ
pub ≤ℤ_trans : (a b c : ℤ) → a ≤ℤ b → b ≤ℤ c → a ≤ℤ c
≤ℤ_trans a b c h k = omega (arith, ints)

pub ≤ℤ_antisym : (a b : ℤ) → a ≤ℤ b → b ≤ℤ a → a ≡ b
≤ℤ_antisym a b h k = omega (arith, ints)

le_total : (a b : ℤ) → (a ≤ℤ b) ⊎ (b ≤ℤ a)
le_total a b = by_lt_z a b (λ h. inl (lt_is_le a b h)) (λ h. inr h)
  where
    lt_is_le : (a b : ℤ) → a <ℤ b → a ≤ℤ b
    lt_is_le a b h = omega (arith, ints)

le_z-false : (a b : ℤ) → lib.Signed.le_z a b ≡ false → b ≤ℤ a
le_z-false a b e = go (le_total b a)
  where
    go : (b ≤ℤ a) ⊎ (a ≤ℤ b) → b ≤ℤ a
    go (inl h) = h
    go (inr h) = absurd (false≢true (sym e ∙ ≤ℤ-le_z a b h))

-- ---- the larger and the smaller of two numbers
abbrev pub larger : ℤ → ℤ → ℤ
larger a b = cond (lib.Signed.le_z a b) b a

abbrev pub smaller : ℤ → ℤ → ℤ
smaller a b = cond (lib.Signed.le_z a b) a b

pub larger-left : (a b : ℤ) → a ≤ℤ larger a b
larger-left a b = go (cases_Bool (lib.Signed.le_z a b))
  where
    go : (lib.Signed.le_z a b ≡ true) ⊎ (lib.Signed.le_z a b ≡ false) → a ≤ℤ larger a b
    go (inl e) = rw e (le_z-true a b e)
    go (inr e) = rw e (≤ℤ_refl a)

pub larger-right : (a b : ℤ) → b ≤ℤ larger a b
larger-right a b = go (cases_Bool (lib.Signed.le_z a b))
  where
    go : (lib.Signed.le_z a b ≡ true) ⊎ (lib.Signed.le_z a b ≡ false) → b ≤ℤ larger a b
    go (inl e) = rw e (≤ℤ_refl b)
    go (inr e) = rw e (le_z-false a b e)

pub larger-cases : (P : ℤ → Type 0) (a b : ℤ) → P a → P b → P (larger a b)
larger-cases P a b p q = go (cases_Bool (lib.Signed.le_z a b))
  where
    go : (lib.Signed.le_z a b ≡ true) ⊎ (lib.Signed.le_z a b ≡ false) → P (larger a b)
    go (inl e) = rw e q
    go (inr e) = rw e p

pub smaller-left : (a b : ℤ) → smaller a b ≤ℤ a
smaller-left a b = go (cases_Bool (lib.Signed.le_z a b))
  where
    go : (lib.Signed.le_z a b ≡ true) ⊎ (lib.Signed.le_z a b ≡ false) → smaller a b ≤ℤ a
    go (inl e) = rw e (≤ℤ_refl a)
    go (inr e) = rw e (le_z-false a b e)

pub smaller-right : (a b : ℤ) → smaller a b ≤ℤ b
smaller-right a b = go (cases_Bool (lib.Signed.le_z a b))
  where
    go : (lib.Signed.le_z a b ≡ true) ⊎ (lib.Signed.le_z a b ≡ false) → smaller a b ≤ℤ b
    go (inl e) = rw e (le_z-true a b e)
    go (inr e) = rw e (≤ℤ_refl b)

pub smaller-cases : (P : ℤ → Type 0) (a b : ℤ) → P a → P b → P (smaller a b)
smaller-cases P a b p q = go (cases_Bool (lib.Signed.le_z a b))
  where
    go : (lib.Signed.le_z a b ≡ true) ⊎ (lib.Signed.le_z a b ≡ false) → P (smaller a b)
    go (inl e) = rw e p
    go (inr e) = rw e q

pub larger-mono : (a b c d : ℤ) → a ≤ℤ c → b ≤ℤ d → larger a b ≤ℤ larger c d
larger-mono a b c d h k = larger-cases (λ x. x ≤ℤ larger c d) a b (≤ℤ_trans _ _ _ h (larger-left c d)) (≤ℤ_trans _ _ _ k (larger-right c d))

pub smaller-mono : (a b c d : ℤ) → a ≤ℤ c → b ≤ℤ d → smaller a b ≤ℤ smaller c d
smaller-mono a b c d h k = smaller-cases (λ x. smaller a b ≤ℤ x) c d (≤ℤ_trans _ _ _ (smaller-left a b) h) (≤ℤ_trans _ _ _ (smaller-right a b) k)

-- ---- numbers along the facts are in order: what `close` tests
abbrev pub IsOrderly : List Fact → Type 0
IsOrderly fs = (j k : ℤ) → reaches fs (Number j) (Number k) ≡ true → j ≤ℤ k

-- the same, told by the ends of facts alone
abbrev pub HasOrderlyEnds : List Fact → Type 0
HasOrderlyEnds fs = (f g : Fact) → IsMember f fs → IsMember g fs → (f ≡ g) ⊎ (reaches fs f.hi g.lo ≡ true) → floor_of f.lo ≤ℤ ceiling_of g.hi

pub number-below : (j : ℤ) (x : Node) → is_below (Number j) x ≡ true → j ≤ℤ floor_of x
number-below j x e = go (is_below-cases (Number j) x e)
  where
    go : (Number j ≡ x) ⊎ (j ≤ℤ floor_of x) → j ≤ℤ floor_of x
    go (inl p) = rw (← p) (≤ℤ_refl j)
    go (inr h) = h

pub below-number : (k : ℤ) (x : Node) → is_below x (Number k) ≡ true → ceiling_of x ≤ℤ k
below-number k x e = go (is_below-cases x (Number k) e)
  where
    go : (x ≡ Number k) ⊎ (ceiling_of x ≤ℤ k) → ceiling_of x ≤ℤ k
    go (inl p) = rw p (≤ℤ_refl k)
    go (inr h) = h

pub floor-reaches : (fs : List Fact) (x : Node) → reaches fs (Number (floor_of x)) x ≡ true
floor-reaches fs x = reaches-below fs _ _ (is_below-plain (Number (floor_of x)) x (≤ℤ_refl _))

pub reaches-ceiling : (fs : List Fact) (x : Node) → reaches fs x (Number (ceiling_of x)) ≡ true
reaches-ceiling fs x = reaches-below fs _ _ (is_below-plain x (Number (ceiling_of x)) (≤ℤ_refl _))

pub IsOrderly-from_ends : (fs : List Fact) → HasOrderlyEnds fs → IsOrderly fs
IsOrderly-from_ends fs h j k e = first (reaches-first fs (Number j) (Number k) e)
  where
    last : (f : Fact) → IsMember f fs → j ≤ℤ floor_of f.lo → (is_below f.hi (Number k) ≡ true) ⊎ ((g : Fact) × IsMember g fs × (reaches fs f.hi g.lo ≡ true) × (is_below g.hi (Number k) ≡ true)) → j ≤ℤ k
    last f i b (inl a) = ≤ℤ_trans _ _ _ b (≤ℤ_trans _ _ _ (h f f i i (inl refl)) (below-number k _ a))
    last f i b (inr w) = ≤ℤ_trans _ _ _ b (≤ℤ_trans _ _ _ (h f w.0 i w.1 (inr w.2)) (below-number k _ w.3))

    first : (is_below (Number j) (Number k) ≡ true) ⊎ ((f : Fact) × IsMember f fs × (is_below (Number j) f.lo ≡ true) × (reaches fs f.hi (Number k) ≡ true)) → j ≤ℤ k
    first (inl a) = number-below j (Number k) a
    first (inr w) = last w.0 w.1 (number-below j _ w.2) (reaches-last fs _ _ w.3)

-- ---- the bounds

-- the greatest of the floors of x and of the lower nodes of those of `gs` whose upper nodes reach x
abbrev pub low_among : List Fact → List Fact → Node → ℤ
low_among fs [] x = floor_of x
low_among fs (g ∷ gs) x = cond (reaches fs g.hi x) (larger (floor_of g.lo) (low_among fs gs x)) (low_among fs gs x)

abbrev pub high_among : List Fact → List Fact → Node → ℤ
high_among fs [] x = ceiling_of x
high_among fs (g ∷ gs) x = cond (reaches fs x g.lo) (smaller (ceiling_of g.hi) (high_among fs gs x)) (high_among fs gs x)

-- the greatest number that the facts force below x, and the least above it
unfoldable pub low_of : List Fact → Node → ℤ
low_of fs x = low_among fs fs x

unfoldable pub high_of : List Fact → Node → ℤ
high_of fs x = high_among fs fs x

low_among-floor : (fs gs : List Fact) (x : Node) → floor_of x ≤ℤ low_among fs gs x
low_among-floor fs [] x = ≤ℤ_refl _
low_among-floor fs (g ∷ gs) x = go (cases_Bool (reaches fs g.hi x)) (low_among-floor fs gs x)
  where
    go : (reaches fs g.hi x ≡ true) ⊎ (reaches fs g.hi x ≡ false) → floor_of x ≤ℤ low_among fs gs x → floor_of x ≤ℤ low_among fs (g ∷ gs) x
    go (inl r) h = rw r (≤ℤ_trans _ _ _ h (larger-right _ _))
    go (inr r) h = rw r h

low_among-above : (fs gs : List Fact) (x : Node) (f : Fact) → IsMember f gs → reaches fs f.hi x ≡ true → floor_of f.lo ≤ℤ low_among fs gs x
low_among-above fs [] x f i e = absurd i
low_among-above fs (g ∷ gs) x f (inl p) e = let r : reaches fs g.hi x ≡ true = rw p e in rw r (rw (← p) (larger-left _ _))
low_among-above fs (g ∷ gs) x f (inr i) e = go (cases_Bool (reaches fs g.hi x)) (low_among-above fs gs x f i e)
  where
    go : (reaches fs g.hi x ≡ true) ⊎ (reaches fs g.hi x ≡ false) → floor_of f.lo ≤ℤ low_among fs gs x → floor_of f.lo ≤ℤ low_among fs (g ∷ gs) x
    go (inl r) h = rw r (≤ℤ_trans _ _ _ h (larger-right _ _))
    go (inr r) h = rw r h

low_among-reaches : (fs gs : List Fact) (x : Node) → ((f : Fact) → IsMember f gs → IsMember f fs) → reaches fs (Number (low_among fs gs x)) x ≡ true
low_among-reaches fs [] x inside = floor-reaches fs x
low_among-reaches fs (g ∷ gs) x inside = go (cases_Bool (reaches fs g.hi x)) (low_among-reaches fs gs x (λ f i. inside f (inr i)))
  where
    go : (reaches fs g.hi x ≡ true) ⊎ (reaches fs g.hi x ≡ false) → reaches fs (Number (low_among fs gs x)) x ≡ true → reaches fs (Number (low_among fs (g ∷ gs) x)) x ≡ true
    go (inl r) h = rw r (larger-cases (λ k. reaches fs (Number k) x ≡ true) _ _ (reaches-trans fs _ _ _ (floor-reaches fs g.lo) (reaches-trans fs _ _ _ (reaches-fact fs g (inside g (inl refl))) r)) h)
    go (inr r) h = rw r h

high_among-ceiling : (fs gs : List Fact) (x : Node) → high_among fs gs x ≤ℤ ceiling_of x
high_among-ceiling fs [] x = ≤ℤ_refl _
high_among-ceiling fs (g ∷ gs) x = go (cases_Bool (reaches fs x g.lo)) (high_among-ceiling fs gs x)
  where
    go : (reaches fs x g.lo ≡ true) ⊎ (reaches fs x g.lo ≡ false) → high_among fs gs x ≤ℤ ceiling_of x → high_among fs (g ∷ gs) x ≤ℤ ceiling_of x
    go (inl r) h = rw r (≤ℤ_trans _ _ _ (smaller-right _ _) h)
    go (inr r) h = rw r h

high_among-below : (fs gs : List Fact) (x : Node) (f : Fact) → IsMember f gs → reaches fs x f.lo ≡ true → high_among fs gs x ≤ℤ ceiling_of f.hi
high_among-below fs [] x f i e = absurd i
high_among-below fs (g ∷ gs) x f (inl p) e = let r : reaches fs x g.lo ≡ true = rw p e in rw r (rw (← p) (smaller-left _ _))
high_among-below fs (g ∷ gs) x f (inr i) e = go (cases_Bool (reaches fs x g.lo)) (high_among-below fs gs x f i e)
  where
    go : (reaches fs x g.lo ≡ true) ⊎ (reaches fs x g.lo ≡ false) → high_among fs gs x ≤ℤ ceiling_of f.hi → high_among fs (g ∷ gs) x ≤ℤ ceiling_of f.hi
    go (inl r) h = rw r (≤ℤ_trans _ _ _ (smaller-right _ _) h)
    go (inr r) h = rw r h

high_among-reaches : (fs gs : List Fact) (x : Node) → ((f : Fact) → IsMember f gs → IsMember f fs) → reaches fs x (Number (high_among fs gs x)) ≡ true
high_among-reaches fs [] x inside = reaches-ceiling fs x
high_among-reaches fs (g ∷ gs) x inside = go (cases_Bool (reaches fs x g.lo)) (high_among-reaches fs gs x (λ f i. inside f (inr i)))
  where
    go : (reaches fs x g.lo ≡ true) ⊎ (reaches fs x g.lo ≡ false) → reaches fs x (Number (high_among fs gs x)) ≡ true → reaches fs x (Number (high_among fs (g ∷ gs) x)) ≡ true
    go (inl r) h = rw r (smaller-cases (λ k. reaches fs x (Number k) ≡ true) _ _ (reaches-trans fs _ _ _ r (reaches-trans fs _ _ _ (reaches-fact fs g (inside g (inl refl))) (reaches-ceiling fs g.hi))) h)
    go (inr r) h = rw r h

pub low-floor : (fs : List Fact) (x : Node) → floor_of x ≤ℤ low_of fs x
unfolding low_of
low-floor fs x = low_among-floor fs fs x

pub high-ceiling : (fs : List Fact) (x : Node) → high_of fs x ≤ℤ ceiling_of x
unfolding high_of
high-ceiling fs x = high_among-ceiling fs fs x

pub low-reaches : (fs : List Fact) (x : Node) → reaches fs (Number (low_of fs x)) x ≡ true
unfolding low_of
low-reaches fs x = low_among-reaches fs fs x (λ f i. i)

pub reaches-high : (fs : List Fact) (x : Node) → reaches fs x (Number (high_of fs x)) ≡ true
unfolding high_of
reaches-high fs x = high_among-reaches fs fs x (λ f i. i)

-- what is at least the floors of x and of the lower nodes of facts that lead to x is at least every number that reaches x
pub number-reaches : (fs : List Fact) (x : Node) (k low : ℤ) → floor_of x ≤ℤ low → ((f : Fact) → IsMember f fs → reaches fs f.hi x ≡ true → floor_of f.lo ≤ℤ low) → reaches fs (Number k) x ≡ true → k ≤ℤ low
number-reaches fs x k low own others e = go (reaches-first fs (Number k) x e)
  where
    go : (is_below (Number k) x ≡ true) ⊎ ((f : Fact) × IsMember f fs × (is_below (Number k) f.lo ≡ true) × (reaches fs f.hi x ≡ true)) → k ≤ℤ low
    go (inl a) = ≤ℤ_trans _ _ _ (number-below k x a) own
    go (inr w) = ≤ℤ_trans _ _ _ (number-below k _ w.2) (others w.0 w.1 w.3)

pub reaches-number : (fs : List Fact) (x : Node) (k high : ℤ) → high ≤ℤ ceiling_of x → ((f : Fact) → IsMember f fs → reaches fs x f.lo ≡ true → high ≤ℤ ceiling_of f.hi) → reaches fs x (Number k) ≡ true → high ≤ℤ k
reaches-number fs x k high own others e = go (reaches-last fs x (Number k) e)
  where
    go : (is_below x (Number k) ≡ true) ⊎ ((f : Fact) × IsMember f fs × (reaches fs x f.lo ≡ true) × (is_below f.hi (Number k) ≡ true)) → high ≤ℤ k
    go (inl a) = ≤ℤ_trans _ _ _ own (below-number k x a)
    go (inr w) = ≤ℤ_trans _ _ _ (others w.0 w.1 w.2) (below-number k _ w.3)

pub low-above : (fs : List Fact) (x : Node) (k : ℤ) → reaches fs (Number k) x ≡ true → k ≤ℤ low_of fs x
unfolding low_of
low-above fs x k e = number-reaches fs x k _ (low_among-floor fs fs x) (low_among-above fs fs x) e

pub high-below : (fs : List Fact) (x : Node) (k : ℤ) → reaches fs x (Number k) ≡ true → high_of fs x ≤ℤ k
unfolding high_of
high-below fs x k e = reaches-number fs x k _ (high_among-ceiling fs fs x) (high_among-below fs fs x) e

pub low-mono : (fs : List Fact) (x y : Node) → reaches fs x y ≡ true → low_of fs x ≤ℤ low_of fs y
low-mono fs x y e = low-above fs y _ (reaches-trans fs _ _ _ (low-reaches fs x) e)

pub high-mono : (fs : List Fact) (x y : Node) → reaches fs x y ≡ true → high_of fs x ≤ℤ high_of fs y
high-mono fs x y e = high-below fs x _ (reaches-trans fs _ _ _ e (reaches-high fs y))

pub low-high : (fs : List Fact) → IsOrderly fs → (x y : Node) → reaches fs x y ≡ true → low_of fs x ≤ℤ high_of fs y
low-high fs o x y e = o _ _ (reaches-trans fs _ _ _ (low-reaches fs x) (reaches-trans fs _ _ _ e (reaches-high fs y)))
