-- The bounds of a node found fact by fact, and that the number nearest to 0 between them is its sample.
use Rattle.std.proofs.Common.{◌≡◌, ℕ, List, length, true, ℤ, pos, ◌≤ℤ◌, ◌<ℤ◌, ◌<◌, ◌≤◌, ◌+◌, sym, subst, arith, below_more}
use lib.Signed.{≤ℤ_refl}
use Rattle.std.specs.Int.{int_max, int_min}
use Rattle.std.proofs.lemmas.Int.{ints, clamps}
use Rattle.order_facts.specs.declared.steps.Node.{Node}
use Rattle.order_facts.specs.declared.steps.Node.TheVariants.{Number}
use Rattle.order_facts.specs.declared.steps.Fact.{Fact}
use Rattle.prog_tree.specs.Number.{least, greatest}
use Rattle.order_facts.specs.Chain.{floor_of, ceiling_of, IsConsistent}
use Rattle.order_facts.specs.Reaches.{reaches, fact_at}
use Rattle.order_facts.specs.Sample.{IsNearest, IsSampled}
use Rattle.order_facts.proofs.Reach.{reaches-fact, reaches-trans}
use Rattle.order_facts.proofs.Bounds.{≤ℤ_trans, floor-reaches, reaches-ceiling, number-reaches, reaches-number}
use Rattle.order_facts.proofs.Exact.{Entails-from_reaches, reaches-from_Entails, orderly_from_IsConsistent}
use Rattle.order_facts.proofs.Places.{member-fact_at, place_of}

-- ---- the bounds

-- `low` is forced below the node, and is the greatest that the first facts force
pub record IsLowSoFar (fs : List Fact) (node : Node) (count : ℕ) (low : ℤ) : Type 0 where
  pub below : reaches fs (Number low) node ≡ true
  pub own : floor_of node ≤ℤ low
  pub others : (k : ℕ) → k < count → reaches fs (fact_at fs k).hi node ≡ true → floor_of (fact_at fs k).lo ≤ℤ low

pub low-start : (fs : List Fact) (node : Node) (low : ℤ) → low ≡ floor_of node → IsLowSoFar fs node 0 low
low-start fs node low e = subst (λ z. IsLowSoFar fs node 0 z) (sym e) (record { below = floor-reaches fs node; own = ≤ℤ_refl _; others = λ k h. absurd (omega arith) })

pub low-raise : (fs : List Fact) (node : Node) (k : ℕ) (low floor : ℤ) → k < length fs → IsLowSoFar fs node k low → floor ≡ floor_of (fact_at fs k).lo → low <ℤ floor → reaches fs (fact_at fs k).hi node ≡ true → IsLowSoFar fs node (k + 1) floor
low-raise fs node k low floor inside s e more r =
    let rises : low ≤ℤ floor = omega (arith, ints) in
    record {
      below = rw e (reaches-trans fs _ _ _ (floor-reaches fs (fact_at fs k).lo) (reaches-trans fs _ _ _ (reaches-fact fs (fact_at fs k) (member-fact_at fs k inside)) r));
      own = ≤ℤ_trans _ _ _ s.own rises;
      others = below_more (λ i. reaches fs (fact_at fs i).hi node ≡ true → floor_of (fact_at fs i).lo ≤ℤ floor) k (λ i h t. ≤ℤ_trans _ _ _ (s.others i h t) rises) (λ _. subst (λ z. z ≤ℤ floor) e (≤ℤ_refl floor));
    }

pub low-keep : (fs : List Fact) (node : Node) (k : ℕ) (low : ℤ) → IsLowSoFar fs node k low → (reaches fs (fact_at fs k).hi node ≡ true → floor_of (fact_at fs k).lo ≤ℤ low) → IsLowSoFar fs node (k + 1) low
low-keep fs node k low s here = record { below = s.below; own = s.own; others = below_more (λ i. reaches fs (fact_at fs i).hi node ≡ true → floor_of (fact_at fs i).lo ≤ℤ low) k s.others here }

pub low-end : (fs : List Fact) (node : Node) (count : ℕ) (low : ℤ) → length fs ≤ count → IsLowSoFar fs node count low → (k : ℤ) → reaches fs (Number k) node ≡ true → k ≤ℤ low
low-end fs node count low all s k e = number-reaches fs node k low s.own (λ f i r. from f (place_of fs f i) r) e
  where
    from : (f : Fact) → (p : (k : ℕ) × (k < length fs) × (fact_at fs k ≡ f)) → reaches fs f.hi node ≡ true → floor_of f.lo ≤ℤ low
    from f p r =
        let inside = p.1 in
        let h : floor_of (fact_at fs p.0).lo ≤ℤ low = s.others p.0 (omega arith) (subst (λ (g : Fact). reaches fs g.hi node ≡ true) (sym p.2) r) in
        subst (λ (g : Fact). floor_of g.lo ≤ℤ low) p.2 h

-- `high` is forced above the node, and is the least that the first facts force
pub record IsHighSoFar (fs : List Fact) (node : Node) (count : ℕ) (high : ℤ) : Type 0 where
  pub above : reaches fs node (Number high) ≡ true
  pub own : high ≤ℤ ceiling_of node
  pub others : (k : ℕ) → k < count → reaches fs node (fact_at fs k).lo ≡ true → high ≤ℤ ceiling_of (fact_at fs k).hi

pub high-start : (fs : List Fact) (node : Node) (high : ℤ) → high ≡ ceiling_of node → IsHighSoFar fs node 0 high
high-start fs node high e = subst (λ z. IsHighSoFar fs node 0 z) (sym e) (record { above = reaches-ceiling fs node; own = ≤ℤ_refl _; others = λ k h. absurd (omega arith) })

pub high-lower : (fs : List Fact) (node : Node) (k : ℕ) (high ceiling : ℤ) → k < length fs → IsHighSoFar fs node k high → ceiling ≡ ceiling_of (fact_at fs k).hi → ceiling <ℤ high → reaches fs node (fact_at fs k).lo ≡ true → IsHighSoFar fs node (k + 1) ceiling
high-lower fs node k high ceiling inside s e less r =
    let falls : ceiling ≤ℤ high = omega (arith, ints) in
    record {
      above = rw e (reaches-trans fs _ _ _ r (reaches-trans fs _ _ _ (reaches-fact fs (fact_at fs k) (member-fact_at fs k inside)) (reaches-ceiling fs (fact_at fs k).hi)));
      own = ≤ℤ_trans _ _ _ falls s.own;
      others = below_more (λ i. reaches fs node (fact_at fs i).lo ≡ true → ceiling ≤ℤ ceiling_of (fact_at fs i).hi) k (λ i h t. ≤ℤ_trans _ _ _ falls (s.others i h t)) (λ _. subst (λ z. ceiling ≤ℤ z) e (≤ℤ_refl ceiling));
    }

pub high-keep : (fs : List Fact) (node : Node) (k : ℕ) (high : ℤ) → IsHighSoFar fs node k high → (reaches fs node (fact_at fs k).lo ≡ true → high ≤ℤ ceiling_of (fact_at fs k).hi) → IsHighSoFar fs node (k + 1) high
high-keep fs node k high s here = record { above = s.above; own = s.own; others = below_more (λ i. reaches fs node (fact_at fs i).lo ≡ true → high ≤ℤ ceiling_of (fact_at fs i).hi) k s.others here }

pub high-end : (fs : List Fact) (node : Node) (count : ℕ) (high : ℤ) → length fs ≤ count → IsHighSoFar fs node count high → (k : ℤ) → reaches fs node (Number k) ≡ true → high ≤ℤ k
high-end fs node count high all s k e = reaches-number fs node k high s.own (λ f i r. from f (place_of fs f i) r) e
  where
    from : (f : Fact) → (p : (k : ℕ) × (k < length fs) × (fact_at fs k ≡ f)) → reaches fs node f.lo ≡ true → high ≤ℤ ceiling_of f.hi
    from f p r =
        let inside = p.1 in
        let h : high ≤ℤ ceiling_of (fact_at fs p.0).hi = s.others p.0 (omega arith) (subst (λ (g : Fact). reaches fs node g.lo ≡ true) (sym p.2) r) in
        subst (λ (g : Fact). high ≤ℤ ceiling_of g.hi) p.2 h

-- ---- the number between them

pub nearest-clamped : (low high z : ℤ) → low ≤ℤ high → z ≡ int_max low (int_min high (pos 0)) → IsNearest low high z
nearest-clamped low high z h e = record { at_least = omega (arith, ints, clamps); at_most = omega (arith, ints, clamps); nearest = λ w a b. omega (arith, ints, clamps) }

pub IsSampled-from_bounds : (fs : List Fact) (node : Node) (low high z : ℤ) → IsConsistent fs → reaches fs (Number low) node ≡ true → ((k : ℤ) → reaches fs (Number k) node ≡ true → k ≤ℤ low) → reaches fs node (Number high) ≡ true → ((k : ℤ) → reaches fs node (Number k) ≡ true → high ≤ℤ k) → z ≡ int_max low (int_min high (pos 0)) → IsSampled fs node z
IsSampled-from_bounds fs node low high z c below greatest above least e =
    let o = orderly_from_IsConsistent fs c in
    record {
      low = low;
      high = high;
      below = record { forced = Entails-from_reaches fs _ _ below; greatest = λ k h. greatest k (reaches-from_Entails fs _ _ o h) };
      above = record { forced = Entails-from_reaches fs _ _ above; least = λ k h. least k (reaches-from_Entails fs _ _ o h) };
      between = nearest-clamped low high z (o low high (reaches-trans fs _ _ _ below above)) e;
    }
