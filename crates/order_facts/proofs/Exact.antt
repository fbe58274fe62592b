-- Reaching is entailment: it is sound, and where it fails some valuation shows it.
use Rattle.std.proofs.Common.{◌≡◌, ◌↔◌, Bool, List, [], ◌∷◌, true, false, cond, ℤ, pos, ◌≤ℤ◌, ◌⊎◌, inl, inr, refl, sym, ◌∙◌}
use lib.Signed.{≤ℤ_refl}
use Rattle.std.proofs.lemmas.Bool.{false≢true, cases_Bool}
use Rattle.std.proofs.lemmas.List.Elements.{All-nil, All-cons, All-head, All-tail}
use Rattle.prog_tree.proofs.Elements.{IsMember}
use Rattle.order_facts.specs.declared.steps.Node.{Node}
use Rattle.order_facts.specs.declared.steps.Node.TheVariants.{Mine, MineUnknown, Theirs, TheirsUnknown, Number}
use Rattle.order_facts.specs.declared.steps.Fact.{Fact}
use Rattle.order_facts.specs.Chain.{floor_of, ceiling_of, Valuation, IsValuationOfI64, value_under, Meets, Entails, IsConsistent}
use Rattle.order_facts.specs.Reaches.{reaches}
use Rattle.order_facts.proofs.Reach.{is_below-cases, is_below-plain, reaches-cases, reaches-below, reaches-refl, reaches-fact, reaches-trans}
use Rattle.order_facts.proofs.Bounds.{≤ℤ_trans, ≤ℤ_antisym, larger, smaller, larger-left, larger-cases, smaller-left, larger-mono, smaller-mono, IsOrderly, low_of, high_of, low-floor, high-ceiling, low-reaches, reaches-high, low-mono, high-mono, low-high}

-- ---- a valuation that meets the facts, by recursion on them
abbrev pub MeetsEach : Valuation → List Fact → Type 0
MeetsEach v [] = Unit {0}
MeetsEach v (f ∷ fs) = (value_under v f.lo ≤ℤ value_under v f.hi) × MeetsEach v fs

pub floor-value : (v : Valuation) → IsValuationOfI64 v → (x : Node) → (floor_of x ≤ℤ value_under v x) × (value_under v x ≤ℤ ceiling_of x)
floor-value v o (Mine i) = o.mine i
floor-value v o (MineUnknown i) = o.mine_unknown i
floor-value v o (Theirs i) = o.theirs i
floor-value v o (TheirsUnknown i) = o.theirs_unknown i
floor-value v o (Number k) = (≤ℤ_refl k, ≤ℤ_refl k)

pub reaches-sound : (v : Valuation) → IsValuationOfI64 v → (fs : List Fact) → MeetsEach v fs → (x y : Node) → reaches fs x y ≡ true → value_under v x ≤ℤ value_under v y
unfolding reaches
reaches-sound v o [] m x y e = go (is_below-cases x y e)
  where
    go : (x ≡ y) ⊎ (ceiling_of x ≤ℤ floor_of y) → value_under v x ≤ℤ value_under v y
    go (inl p) = rw p (≤ℤ_refl _)
    go (inr h) = ≤ℤ_trans _ _ _ (floor-value v o x).1 (≤ℤ_trans _ _ _ h (floor-value v o y).0)
reaches-sound v o (f ∷ fs) m x y e = go (reaches-cases f fs x y e) (reaches-sound v o fs m.1 x y) (reaches-sound v o fs m.1 x f.lo) (reaches-sound v o fs m.1 f.hi y)
  where
    go : (reaches fs x y ≡ true) ⊎ ((reaches fs x f.lo ≡ true) × (reaches fs f.hi y ≡ true)) → (reaches fs x y ≡ true → value_under v x ≤ℤ value_under v y) → (reaches fs x f.lo ≡ true → value_under v x ≤ℤ value_under v f.lo) → (reaches fs f.hi y ≡ true → value_under v f.hi ≤ℤ value_under v y) → value_under v x ≤ℤ value_under v y
    go (inl a) whole front back = whole a
    go (inr p) whole front back = ≤ℤ_trans _ _ _ (front p.0) (≤ℤ_trans _ _ _ m.0 (back p.1))

-- ---- a valuation from a number for each node
pub assigned : (Node → ℤ) → Valuation
assigned f = record { mine = λ i. f (Mine i); mine_unknown = λ i. f (MineUnknown i); theirs = λ i. f (Theirs i); theirs_unknown = λ i. f (TheirsUnknown i) }

-- a number for each node, between the bounds
abbrev pub IsBetween : List Fact → (Node → ℤ) → Type 0
IsBetween fs f = (x : Node) → (low_of fs x ≤ℤ f x) × (f x ≤ℤ high_of fs x)

between-number : (fs : List Fact) (f : Node → ℤ) → IsBetween fs f → (k : ℤ) → f (Number k) ≡ k
between-number fs f b k = ≤ℤ_antisym _ _ (≤ℤ_trans _ _ _ (b (Number k)).1 (high-ceiling fs (Number k))) (≤ℤ_trans _ _ _ (low-floor fs (Number k)) (b (Number k)).0)

pub value_under-assigned : (fs : List Fact) (f : Node → ℤ) → IsBetween fs f → (x : Node) → value_under (assigned f) x ≡ f x
unfolding assigned
value_under-assigned fs f b (Number k) = sym (between-number fs f b k)
value_under-assigned fs f b _ = refl

pub IsValuationOfI64-assigned : (fs : List Fact) (f : Node → ℤ) → IsBetween fs f → IsValuationOfI64 (assigned f)
unfolding assigned
IsValuationOfI64-assigned fs f b = record { mine = λ i. fits (Mine i); mine_unknown = λ i. fits (MineUnknown i); theirs = λ i. fits (Theirs i); theirs_unknown = λ i. fits (TheirsUnknown i) }
  where
    fits : (x : Node) → (floor_of x ≤ℤ f x) × (f x ≤ℤ ceiling_of x)
    fits x = (≤ℤ_trans _ _ _ (low-floor fs x) (b x).0, ≤ℤ_trans _ _ _ (b x).1 (high-ceiling fs x))

-- an order of the facts that f keeps
meets_each : (fs : List Fact) (f : Node → ℤ) → IsBetween fs f → (gs : List Fact) → ((g : Fact) → IsMember g gs → f g.lo ≤ℤ f g.hi) → MeetsEach (assigned f) gs
meets_each fs f b [] h = tt
meets_each fs f b (g ∷ gs) h = (rw (value_under-assigned fs f b g.lo, value_under-assigned fs f b g.hi) (h g (inl refl)), meets_each fs f b gs (λ k i. h k (inr i)))

-- ---- where s does not reach t, some valuation puts t below s
module _ (fs : List Fact) (o : IsOrderly fs) (s : Node) where
  -- what s reaches is as high as it may be, and the rest as low
  apart : Node → ℤ
  apart x = cond (reaches fs s x) (high_of fs x) (low_of fs x)

  apart-between : IsBetween fs apart
  unfolding apart
  apart-between x = go (cases_Bool (reaches fs s x))
    where
      go : (reaches fs s x ≡ true) ⊎ (reaches fs s x ≡ false) → (low_of fs x ≤ℤ apart x) × (apart x ≤ℤ high_of fs x)
      go (inl r) = rw r (low-high fs o x x (reaches-refl fs x), ≤ℤ_refl _)
      go (inr r) = rw r (≤ℤ_refl _, low-high fs o x x (reaches-refl fs x))

  apart-meets : (g : Fact) → IsMember g fs → apart g.lo ≤ℤ apart g.hi
  unfolding apart
  apart-meets g i = go (cases_Bool (reaches fs s g.lo)) (cases_Bool (reaches fs s g.hi))
    where
      e : reaches fs g.lo g.hi ≡ true
      e = reaches-fact fs g i

      go : (reaches fs s g.lo ≡ true) ⊎ (reaches fs s g.lo ≡ false) → (reaches fs s g.hi ≡ true) ⊎ (reaches fs s g.hi ≡ false) → apart g.lo ≤ℤ apart g.hi
      go (inl a) (inl b) = rw (a, b) (high-mono fs g.lo g.hi e)
      go (inl a) (inr b) = absurd (false≢true (sym b ∙ reaches-trans fs s g.lo g.hi a e))
      go (inr a) (inl b) = rw (a, b) (low-high fs o g.lo g.hi e)
      go (inr a) (inr b) = rw (a, b) (low-mono fs g.lo g.hi e)

  pub counter : (t : Node) → reaches fs s t ≡ false → (v : Valuation) × IsValuationOfI64 v × MeetsEach v fs × (value_under v s ≤ℤ value_under v t → ⊥)
  unfolding apart
  counter t unreached = (assigned apart, IsValuationOfI64-assigned fs apart apart-between, meets_each fs apart apart-between fs apart-meets, against)
    where
      at_s : apart s ≡ high_of fs s
      at_s = rw (reaches-refl fs s) refl

      at_t : apart t ≡ low_of fs t
      at_t = rw unreached refl

      joined : high_of fs s ≤ℤ low_of fs t → reaches fs s t ≡ true
      joined h = reaches-trans fs _ _ _ (reaches-high fs s) (reaches-trans fs _ _ _ (reaches-below fs _ _ (is_below-plain (Number (high_of fs s)) (Number (low_of fs t)) h)) (low-reaches fs t))

      against : value_under (assigned apart) s ≤ℤ value_under (assigned apart) t → ⊥
      against h = false≢true (sym unreached ∙ joined (rw (value_under-assigned fs apart apart-between s, at_s, value_under-assigned fs apart apart-between t, at_t) at h))

-- ---- the number nearest to 0 between the bounds
abbrev pub nearest : ℤ → ℤ → ℤ
nearest low high = larger low (smaller high (pos 0))

-- each node at the number nearest to 0 between its bounds: this meets the facts
abbrev pub sampled : List Fact → Node → ℤ
sampled fs x = nearest (low_of fs x) (high_of fs x)

pub sampled-between : (fs : List Fact) → IsOrderly fs → IsBetween fs (sampled fs)
sampled-between fs o x = (larger-left _ _, larger-cases (λ z. z ≤ℤ high_of fs x) _ _ (low-high fs o x x (reaches-refl fs x)) (smaller-left _ _))

pub sampled-meets : (fs : List Fact) → IsOrderly fs → MeetsEach (assigned (sampled fs)) fs
sampled-meets fs o = meets_each fs (sampled fs) (sampled-between fs o) fs each
  where
    each : (g : Fact) → IsMember g fs → sampled fs g.lo ≤ℤ sampled fs g.hi
    each g i = larger-mono _ _ _ _ (low-mono fs g.lo g.hi (reaches-fact fs g i)) (smaller-mono _ _ _ _ (high-mono fs g.lo g.hi (reaches-fact fs g i)) (≤ℤ_refl _))

-- ---- in the words of the specification
MeetsEach-from_Meets : (v : Valuation) (fs : List Fact) → Meets v fs → MeetsEach v fs
MeetsEach-from_Meets v [] m = tt
MeetsEach-from_Meets v (f ∷ fs) m = (All-head (λ g. value_under v g.lo ≤ℤ value_under v g.hi) f fs m, MeetsEach-from_Meets v fs (All-tail (λ g. value_under v g.lo ≤ℤ value_under v g.hi) f fs m))

pub Meets-from_MeetsEach : (v : Valuation) (fs : List Fact) → MeetsEach v fs → Meets v fs
Meets-from_MeetsEach v [] m = All-nil (λ g. value_under v g.lo ≤ℤ value_under v g.hi)
Meets-from_MeetsEach v (f ∷ fs) m = All-cons (λ g. value_under v g.lo ≤ℤ value_under v g.hi) f fs m.0 (Meets-from_MeetsEach v fs m.1)

-- consistent is orderly
pub IsConsistent-from_orderly : (fs : List Fact) → IsOrderly fs → IsConsistent fs
IsConsistent-from_orderly fs o = (assigned (sampled fs), IsValuationOfI64-assigned fs (sampled fs) (sampled-between fs o), Meets-from_MeetsEach _ fs (sampled-meets fs o))

pub orderly_from_IsConsistent : (fs : List Fact) → IsConsistent fs → IsOrderly fs
orderly_from_IsConsistent fs c j k e = reaches-sound c.0 c.1 fs (MeetsEach-from_Meets c.0 fs c.2) (Number j) (Number k) e

-- entailment is reaching
pub Entails-from_reaches : (fs : List Fact) (x y : Node) → reaches fs x y ≡ true → Entails fs x y
Entails-from_reaches fs x y e v o m = reaches-sound v o fs (MeetsEach-from_Meets v fs m) x y e

pub reaches-from_Entails : (fs : List Fact) (x y : Node) → IsOrderly fs → Entails fs x y → reaches fs x y ≡ true
reaches-from_Entails fs x y o h = go (cases_Bool (reaches fs x y))
  where
    go : (reaches fs x y ≡ true) ⊎ (reaches fs x y ≡ false) → reaches fs x y ≡ true
    go (inl e) = e
    go (inr e) = let w = counter fs o x y e in absurd (w.3 (h w.0 w.1 (Meets-from_MeetsEach w.0 fs w.2)))

-- what `entails` answers where the facts are consistent
pub Entails-exact : (fs : List Fact) (x y : Node) (r : Bool) → IsConsistent fs → r ≡ reaches fs x y → (r ≡ true) ↔ Entails fs x y
Entails-exact fs x y r c e = (λ t. Entails-from_reaches fs x y (sym e ∙ t), λ h. e ∙ reaches-from_Entails fs x y (orderly_from_IsConsistent fs c) h)
