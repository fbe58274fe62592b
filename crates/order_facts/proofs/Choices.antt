-- The choices of a sample: each node gets its sample, and the sample meets the facts.
use Rattle.std.proofs.Common.{◌≡◌, ℕ, zero, suc, List, [], ◌∷◌, ◌++◌, length, get_or, true, false, ℤ, pos, ◌≤ℤ◌, ◌<ℤ◌, ◌<◌, ◌≤◌, ◌⊎◌, inl, inr, refl, sym, subst, ◌∙◌, arith, length-append}
use lib.Signed.{≤ℤ_refl}
use Rattle.std.specs.Prelude.{All, Any, unsigned_abs}
use Rattle.std.proofs.lemmas.Bool.{cases_Bool, eq-eqb, false≢true}
use Rattle.std.proofs.lemmas.Int.{ints, by_lt_z}
use Rattle.std.proofs.lemmas.List.{get_or_append_left}
use Rattle.std.proofs.lemmas.List.Elements.{All-head, All-tail}
use Rattle.std.proofs.lemmas.List.Quantifiers.{Any-push}
use Rattle.prog_tree.proofs.Elements.{IsMember}
use Rattle.order_facts.specs.declared.steps.Node.{Node}
use Rattle.order_facts.specs.declared.steps.Node.TheVariants.{Mine, MineUnknown, Theirs, TheirsUnknown, Number}
use Rattle.order_facts.specs.declared.steps.Fact.{Fact}
use Rattle.order_facts.specs.declared.sample.Choice.{Choice}
use Rattle.prog_tree.specs.Number.{least, greatest, IsI64}
use Rattle.order_facts.specs.Chain.{floor_of, ceiling_of, Entails, IsConsistent, IsValuationOfI64, Meets, value_under, Valuation}
use Rattle.order_facts.specs.Reaches.{is_same_unknown, is_below, reaches, fact_at}
use Rattle.order_facts.specs.Sample.{chosen, sample_number, valuation_of, IsNearest, IsSampled, HasChoice}
use Rattle.order_facts.proofs.Reach.{is_same_unknown-true, is_below-cases, reaches-first, reaches-last, reaches-fact, reaches-trans}
use Rattle.order_facts.proofs.Bounds.{≤ℤ_trans, number-below, below-number, floor-reaches, reaches-ceiling}
use Rattle.order_facts.proofs.Exact.{Entails-from_reaches, reaches-from_Entails, orderly_from_IsConsistent}
use Rattle.order_facts.proofs.Places.{place_of}

-- ---- one more choice

Any-kept : {A : Type 0} (P : A → Type 0) (xs : List A) (x : A) → Any P xs → Any P (xs ++ x ∷ [])
Any-kept P xs x a = (a.0, a.1, omega (arith, a.2, length-append xs (x ∷ [])), get_or_append_left xs (x ∷ []) a.1 a.0 a.2 ∙ a.3, a.4)

pub HasChoice-push : (choices : List Choice) (c : Choice) (node : Node) → HasChoice choices node → HasChoice (choices ++ c ∷ []) node
HasChoice-push choices c (Number k) h = tt
HasChoice-push choices c (Mine i) h = Any-kept _ choices c h
HasChoice-push choices c (MineUnknown i) h = Any-kept _ choices c h
HasChoice-push choices c (Theirs i) h = Any-kept _ choices c h
HasChoice-push choices c (TheirsUnknown i) h = Any-kept _ choices c h

pub HasChoice-last : (choices : List Choice) (node : Node) (number : ℤ) → HasChoice (choices ++ record { node = node; number = number } ∷ []) node
HasChoice-last choices (Number k) number = tt
HasChoice-last choices (Mine i) number = Any-push _ choices _ refl
HasChoice-last choices (MineUnknown i) number = Any-push _ choices _ refl
HasChoice-last choices (Theirs i) number = Any-push _ choices _ refl
HasChoice-last choices (TheirsUnknown i) number = Any-push _ choices _ refl

-- ---- a number, and a node in no fact

IsSampled-number : (fs : List Fact) (k : ℤ) → IsConsistent fs → IsSampled fs (Number k) k
IsSampled-number fs k c = record {
  low = k;
  high = k;
  below = record { forced = λ v o m. ≤ℤ_refl k; greatest = λ j h. h c.0 c.1 c.2 };
  above = record { forced = λ v o m. ≤ℤ_refl k; least = λ j h. h c.0 c.1 c.2 };
  between = record { at_least = ≤ℤ_refl k; at_most = ≤ℤ_refl k; nearest = λ w a b. omega (arith, ints) };
}

IsSampled-free : (fs : List Fact) (node : Node) → IsConsistent fs → floor_of node ≡ least → ceiling_of node ≡ greatest → ((f : Fact) → IsMember f fs → f.lo ≡ node → ⊥) → ((f : Fact) → IsMember f fs → f.hi ≡ node → ⊥) → IsSampled fs node (pos 0)
IsSampled-free fs node c lowest highest no_lo no_hi = record {
  low = least;
  high = greatest;
  below = record { forced = subst (λ z. Entails fs (Number z) node) lowest (Entails-from_reaches fs _ _ (floor-reaches fs node)); greatest = λ k h. subst (λ z. k ≤ℤ z) lowest (low k (reaches-last fs _ _ (reaches-from_Entails fs _ _ o h))) };
  above = record { forced = subst (λ z. Entails fs node (Number z)) highest (Entails-from_reaches fs _ _ (reaches-ceiling fs node)); least = λ k h. subst (λ z. z ≤ℤ k) highest (high k (reaches-first fs _ _ (reaches-from_Entails fs _ _ o h))) };
  between = record { at_least = omega (arith, ints); at_most = omega (arith, ints); nearest = λ w a b. omega (arith, ints) };
}
  where
    o : (j k : ℤ) → reaches fs (Number j) (Number k) ≡ true → j ≤ℤ k
    o = orderly_from_IsConsistent fs c

    low : (k : ℤ) → (is_below (Number k) node ≡ true) ⊎ ((g : Fact) × IsMember g fs × (reaches fs (Number k) g.lo ≡ true) × (is_below g.hi node ≡ true)) → k ≤ℤ floor_of node
    low k (inl a) = number-below k node a
    low k (inr w) = go (is_below-cases _ _ w.3)
      where
        go : (w.0.hi ≡ node) ⊎ (ceiling_of w.0.hi ≤ℤ floor_of node) → k ≤ℤ floor_of node
        go (inl e) = absurd (no_hi w.0 w.1 e)
        go (inr h) = ≤ℤ_trans _ _ _ (o k _ (reaches-trans fs _ _ _ w.2 (reaches-trans fs _ _ _ (reaches-fact fs w.0 w.1) (reaches-ceiling fs w.0.hi)))) h

    high : (k : ℤ) → (is_below node (Number k) ≡ true) ⊎ ((g : Fact) × IsMember g fs × (is_below node g.lo ≡ true) × (reaches fs g.hi (Number k) ≡ true)) → ceiling_of node ≤ℤ k
    high k (inl a) = below-number k node a
    high k (inr w) = go (is_below-cases _ _ w.2)
      where
        go : (node ≡ w.0.lo) ⊎ (ceiling_of node ≤ℤ floor_of w.0.lo) → ceiling_of node ≤ℤ k
        go (inl e) = absurd (no_lo w.0 w.1 (sym e))
        go (inr h) = ≤ℤ_trans _ _ _ h (o _ k (reaches-trans fs _ _ _ (floor-reaches fs w.0.lo) (reaches-trans fs _ _ _ (reaches-fact fs w.0 w.1) w.3)))

-- ---- each node gets its sample

-- the node has a choice and gets its sample, or it has none and gets 0
chosen-cases : (fs : List Fact) (node : Node) → is_same_unknown node node ≡ true → (choices : List Choice) → All (λ c. IsSampled fs c.node c.number) choices → IsSampled fs node (chosen choices node) ⊎ ((chosen choices node ≡ pos 0) × (Any (λ c. c.node ≡ node) choices → ⊥))
chosen-cases fs node own [] s = inr (refl, λ a. absurd (let h = a.2 in omega arith))
chosen-cases fs node own (c ∷ rest) s = go (cases_Bool (is_same_unknown c.node node)) (chosen-cases fs node own rest (All-tail (λ (d : Choice). IsSampled fs d.node d.number) c rest s))
  where
    go : (is_same_unknown c.node node ≡ true) ⊎ (is_same_unknown c.node node ≡ false) → IsSampled fs node (chosen rest node) ⊎ ((chosen rest node ≡ pos 0) × (Any (λ d. d.node ≡ node) rest → ⊥)) → IsSampled fs node (chosen (c ∷ rest) node) ⊎ ((chosen (c ∷ rest) node ≡ pos 0) × (Any (λ d. d.node ≡ node) (c ∷ rest) → ⊥))
    go (inl e) h = inl (rw e (subst (λ (n : Node). IsSampled fs n c.number) (is_same_unknown-true _ _ e) (All-head (λ (d : Choice). IsSampled fs d.node d.number) c rest s)))
    go (inr e) (inl h) = inl (rw e h)
    go (inr e) (inr h) = inr (rw e h.0, none)
      where
        other : c.node ≡ node → ⊥
        other p = false≢true (sym e ∙ subst (λ (n : Node). is_same_unknown n node ≡ true) (sym p) own)

        at : (k : ℕ) (d : Choice) → k < length (c ∷ rest) → get_or (c ∷ rest) k d ≡ d → d.node ≡ node → ⊥
        at zero d l q r = other (subst (λ (b : Choice). b.node ≡ node) (sym q) r)
        at (suc k) d l q r = h.1 (k, d, omega arith, q, r)

        none : Any (λ d. d.node ≡ node) (c ∷ rest) → ⊥
        none a = at a.0 a.1 a.2 a.3 a.4

module _ (fs : List Fact) (choices : List Choice) (c : IsConsistent fs) (s : All (λ d. IsSampled fs d.node d.number) choices) (ends : (k : ℕ) → k < length fs → HasChoice choices (fact_at fs k).lo × HasChoice choices (fact_at fs k).hi) where
  named : (node : Node) → is_same_unknown node node ≡ true → floor_of node ≡ least → ceiling_of node ≡ greatest → (HasChoice choices node → Any (λ d. d.node ≡ node) choices) → IsSampled fs node (chosen choices node)
  named node own lowest highest has = go (chosen-cases fs node own choices s)
    where
      go : IsSampled fs node (chosen choices node) ⊎ ((chosen choices node ≡ pos 0) × (Any (λ d. d.node ≡ node) choices → ⊥)) → IsSampled fs node (chosen choices node)
      go (inl h) = h
      go (inr h) = rw h.0 (IsSampled-free fs node c lowest highest (λ f i e. lo f (place_of fs f i) e) (λ f i e. hi f (place_of fs f i) e))
        where
          lo : (f : Fact) → (p : (k : ℕ) × (k < length fs) × (fact_at fs k ≡ f)) → f.lo ≡ node → ⊥
          lo f p e = h.1 (has (subst (λ (n : Node). HasChoice choices n) e (subst (λ (g : Fact). HasChoice choices g.lo) p.2 (ends p.0 p.1).0)))

          hi : (f : Fact) → (p : (k : ℕ) × (k < length fs) × (fact_at fs k ≡ f)) → f.hi ≡ node → ⊥
          hi f p e = h.1 (has (subst (λ (n : Node). HasChoice choices n) e (subst (λ (g : Fact). HasChoice choices g.hi) p.2 (ends p.0 p.1).1)))

  pub IsSampled-sample_number : (node : Node) → IsSampled fs node (sample_number choices node)
  IsSampled-sample_number (Number k) = IsSampled-number fs k c
  IsSampled-sample_number (Mine i) = named (Mine i) (eq-eqb i i refl) refl refl (λ h. h)
  IsSampled-sample_number (MineUnknown i) = named (MineUnknown i) (eq-eqb i i refl) refl refl (λ h. h)
  IsSampled-sample_number (Theirs i) = named (Theirs i) (eq-eqb i i refl) refl refl (λ h. h)
  IsSampled-sample_number (TheirsUnknown i) = named (TheirsUnknown i) (eq-eqb i i refl) refl refl (λ h. h)

-- ---- samples meet the facts

-- bounds that both rise raise the number between them
nearest-mono : (low high z low' high' z' : ℤ) → IsNearest low high z → IsNearest low' high' z' → low ≤ℤ low' → high ≤ℤ high' → z ≤ℤ z'
nearest-mono low high z low' high' z' n m l h = by_lt_z z' z (λ less. absurd (crossed less)) (λ k. k)
  where
    crossed : z' <ℤ z → ⊥
    crossed less =
        let a = n.at_least in
        let b = n.at_most in
        let d = m.at_least in
        let e = m.at_most in
        let there : unsigned_abs z ≤ unsigned_abs z' = n.nearest z' (≤ℤ_trans _ _ _ l d) (omega (arith, ints)) in
        let back : unsigned_abs z' ≤ unsigned_abs z = m.nearest z (omega (arith, ints)) (≤ℤ_trans _ _ _ b h) in
        let low_zero : low ≤ℤ pos 0 = omega (arith, ints) in
        let zero_high : pos 0 ≤ℤ high = omega (arith, ints) in
        let zero : unsigned_abs z ≤ unsigned_abs (pos 0) = n.nearest (pos 0) low_zero zero_high in
        absurd (omega (arith, ints))

value_under-valuation_of : (choices : List Choice) (node : Node) → value_under (valuation_of choices) node ≡ sample_number choices node
value_under-valuation_of choices (Number k) = refl
value_under-valuation_of choices _ = refl

module _ (fs : List Fact) (choices : List Choice) (s : (node : Node) → IsSampled fs node (sample_number choices node)) where
  -- where the facts force one node below another, the sample keeps it
  sampled-mono : (x y : Node) → Entails fs x y → sample_number choices x ≤ℤ sample_number choices y
  sampled-mono x y h =
      let a = s x in
      let b = s y in
      nearest-mono a.low a.high _ b.low b.high _ a.between b.between (b.below.greatest a.low (λ v o m. ≤ℤ_trans _ _ _ (a.below.forced v o m) (h v o m))) (a.above.least b.high (λ v o m. ≤ℤ_trans _ _ _ (h v o m) (b.above.forced v o m)))

  fits : (node : Node) → ((v : Valuation) → IsValuationOfI64 v → IsI64 (value_under v node)) → IsI64 (sample_number choices node)
  fits node h =
      let a = s node in
      (≤ℤ_trans _ _ _ (a.below.greatest least (λ v o m. (h v o).0)) a.between.at_least, ≤ℤ_trans _ _ _ a.between.at_most (a.above.least greatest (λ v o m. (h v o).1)))

  pub IsValuationOfI64-valuation_of : IsValuationOfI64 (valuation_of choices)
  IsValuationOfI64-valuation_of = record { mine = λ i. fits (Mine i) (λ v o. o.mine i); mine_unknown = λ i. fits (MineUnknown i) (λ v o. o.mine_unknown i); theirs = λ i. fits (Theirs i) (λ v o. o.theirs i); theirs_unknown = λ i. fits (TheirsUnknown i) (λ v o. o.theirs_unknown i) }

  pub Meets-valuation_of : Meets (valuation_of choices) fs
  Meets-valuation_of k d h = rw (value_under-valuation_of choices (get_or fs k d).lo, value_under-valuation_of choices (get_or fs k d).hi) (sampled-mono (get_or fs k d).lo (get_or fs k d).hi (λ v o m. m k d h))
