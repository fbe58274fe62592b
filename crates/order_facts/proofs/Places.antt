-- Reaching, told by the places of facts.
use Rattle.std.proofs.Common.{◌≡◌, ℕ, zero, suc, List, [], ◌∷◌, length, get_or, true, false, ◌≤ℤ◌, ◌<ℤ◌, ◌<◌, ◌⊎◌, inl, inr, refl, sym, subst, ◌∙◌, arith}
use Rattle.std.proofs.lemmas.Bool.{false_from_ne_true, both_ways}
use Rattle.std.proofs.lemmas.Int.{ints}
use Rattle.std.proofs.lemmas.List.{get_or_default}
use Rattle.prog_tree.proofs.Elements.{IsMember, contains_from_member}
use Rattle.order_facts.specs.declared.steps.Node.{Node}
use Rattle.order_facts.specs.declared.steps.Node.TheVariants.{Mine, Number}
use Rattle.order_facts.specs.declared.steps.Fact.{Fact}
use Rattle.prog_tree.specs.Number.{least, greatest}
use Rattle.order_facts.specs.Chain.{floor_of, ceiling_of, IsConsistent, HasContradiction, IsChainFrom, last_of}
use Rattle.order_facts.specs.Reaches.{is_below, reaches, fact_at, HasOrderlyRow}
use Rattle.order_facts.proofs.Reach.{reaches-first, reaches-last, reaches-below, reaches-fact, reaches-trans}
use Rattle.order_facts.proofs.Bounds.{HasOrderlyEnds, IsOrderly-from_ends}
use Rattle.order_facts.proofs.Exact.{IsConsistent-from_orderly, orderly_from_IsConsistent}
use Rattle.order_facts.proofs.Chains.{Chained-from_reaches, reaches-from_chain}

-- ---- facts by their places

pub fact_at-default : (fs : List Fact) (k : ℕ) (d : Fact) → k < length fs → get_or fs k d ≡ fact_at fs k
fact_at-default fs k d h = get_or_default fs k d (record { lo = Mine 0; hi = Mine 0 }) h

pub member-fact_at : (fs : List Fact) (k : ℕ) → k < length fs → IsMember (fact_at fs k) fs
member-fact_at [] k h = absurd (omega arith)
member-fact_at (f ∷ fs) zero h = inl refl
member-fact_at (f ∷ fs) (suc k) h = inr (member-fact_at fs k (omega arith))

pub place_of : (fs : List Fact) (f : Fact) → IsMember f fs → (k : ℕ) × (k < length fs) × (fact_at fs k ≡ f)
place_of [] f i = absurd i
place_of (g ∷ gs) f (inl e) = (zero, omega arith, e)
place_of (g ∷ gs) f (inr i) = let p = place_of gs f i in (suc p.0, omega (arith, p.1), p.2)

-- ---- a way, by its last fact and by its first

pub reaches-by_last : (fs : List Fact) (x y : Node) (k : ℕ) → k < length fs → reaches fs x (fact_at fs k).lo ≡ true → is_below (fact_at fs k).hi y ≡ true → reaches fs x y ≡ true
reaches-by_last fs x y k inside front back = reaches-trans fs _ _ _ front (reaches-trans fs _ _ _ (reaches-fact fs _ (member-fact_at fs k inside)) (reaches-below fs _ _ back))

pub reaches-by_first : (fs : List Fact) (x y : Node) (k : ℕ) → k < length fs → is_below x (fact_at fs k).lo ≡ true → reaches fs (fact_at fs k).hi y ≡ true → reaches fs x y ≡ true
reaches-by_first fs x y k inside front back = reaches-trans fs _ _ _ (reaches-below fs _ _ front) (reaches-trans fs _ _ _ (reaches-fact fs _ (member-fact_at fs k inside)) back)

pub reaches-no_last : (fs : List Fact) (x y : Node) → is_below x y ≡ false → ((k : ℕ) → k < length fs → reaches fs x (fact_at fs k).lo ≡ true → is_below (fact_at fs k).hi y ≡ true → ⊥) → reaches fs x y ≡ false
reaches-no_last fs x y apart none = false_from_ne_true _ (λ e. go (reaches-last fs x y e))
  where
    go : (is_below x y ≡ true) ⊎ ((g : Fact) × IsMember g fs × (reaches fs x g.lo ≡ true) × (is_below g.hi y ≡ true)) → ⊥
    go (inl a) = both_ways _ apart a
    go (inr w) =
        let p = place_of fs w.0 w.1 in
        none p.0 p.1 (subst (λ (g : Fact). reaches fs x g.lo ≡ true) (sym p.2) w.2) (subst (λ (g : Fact). is_below g.hi y ≡ true) (sym p.2) w.3)

pub reaches-no_first : (fs : List Fact) (x y : Node) → is_below x y ≡ false → ((k : ℕ) → k < length fs → is_below x (fact_at fs k).lo ≡ true → reaches fs (fact_at fs k).hi y ≡ true → ⊥) → reaches fs x y ≡ false
reaches-no_first fs x y apart none = false_from_ne_true _ (λ e. go (reaches-first fs x y e))
  where
    go : (is_below x y ≡ true) ⊎ ((g : Fact) × IsMember g fs × (is_below x g.lo ≡ true) × (reaches fs g.hi y ≡ true)) → ⊥
    go (inl a) = both_ways _ apart a
    go (inr w) =
        let p = place_of fs w.0 w.1 in
        none p.0 p.1 (subst (λ (g : Fact). is_below x g.lo ≡ true) (sym p.2) w.2) (subst (λ (g : Fact). reaches fs g.hi y ≡ true) (sym p.2) w.3)

-- ---- consistency, row by row

pub IsConsistent-from_rows : (fs : List Fact) → ((k : ℕ) → k < length fs → HasOrderlyRow fs k) → IsConsistent fs
IsConsistent-from_rows fs rows = IsConsistent-from_orderly fs (IsOrderly-from_ends fs in_order)
  where
    in_order : HasOrderlyEnds fs
    in_order f g i j e = go (place_of fs f i) (place_of fs g j) e
      where
        go : (a : (k : ℕ) × (k < length fs) × (fact_at fs k ≡ f)) → (b : (k : ℕ) × (k < length fs) × (fact_at fs k ≡ g)) → (f ≡ g) ⊎ (reaches fs f.hi g.lo ≡ true) → floor_of f.lo ≤ℤ ceiling_of g.hi
        go a b (inl p) = subst (λ (h : Fact). floor_of f.lo ≤ℤ ceiling_of h.hi) p (subst (λ (h : Fact). floor_of h.lo ≤ℤ ceiling_of h.hi) a.2 (rows a.0 a.1 a.0 a.1 (inl refl)))
        go a b (inr r) = subst (λ (h : Fact). floor_of h.lo ≤ℤ ceiling_of g.hi) a.2 (subst (λ (h : Fact). floor_of (fact_at fs a.0).lo ≤ℤ ceiling_of h.hi) b.2 (rows a.0 a.1 b.0 b.1 (inr (subst (λ (h : Fact). reaches fs h.hi (fact_at fs b.0).lo ≡ true) (sym a.2) (subst (λ (h : Fact). reaches fs f.hi h.lo ≡ true) (sym b.2) r)))))

-- what is surely more than the least i64 is a number, and what is surely less than the greatest
number_low : (x : Node) → least <ℤ floor_of x → x ≡ Number (floor_of x)
number_low (Number k) h = refl
number_low _ h = absurd (omega (arith, ints))

number_high : (x : Node) → ceiling_of x <ℤ greatest → x ≡ Number (ceiling_of x)
number_high (Number k) h = refl
number_high _ h = absurd (omega (arith, ints))

-- two facts out of order contradict each other
pub contradiction-from_facts : (fs : List Fact) (from to : ℕ) → from < length fs → to < length fs → (to ≡ from) ⊎ (reaches fs (fact_at fs from).hi (fact_at fs to).lo ≡ true) → ceiling_of (fact_at fs to).hi <ℤ floor_of (fact_at fs from).lo → least ≤ℤ ceiling_of (fact_at fs to).hi → floor_of (fact_at fs from).lo ≤ℤ greatest → HasContradiction fs
contradiction-from_facts fs from to inside inside_too e falls above below = record {
  greater = floor_of f.lo;
  smaller = ceiling_of g.hi;
  falls = falls;
  first = f;
  first_given = contains_from_member fs f (member-fact_at fs from inside);
  first_is = is_low;
  last = g;
  last_given = contains_from_member fs g (member-fact_at fs to inside_too);
  last_is = is_high;
  chain = f.lo ∷ chained.0;
  chain_is = chained.1;
  chain_runs = (is_low, chained.2 ∙ is_high);
}
  where
    f : Fact
    f = fact_at fs from

    g : Fact
    g = fact_at fs to

    is_low : f.lo ≡ Number (floor_of f.lo)
    is_low = number_low f.lo (omega (arith, ints))

    is_high : g.hi ≡ Number (ceiling_of g.hi)
    is_high = number_high g.hi (omega (arith, ints))

    along : (to ≡ from) ⊎ (reaches fs f.hi g.lo ≡ true) → reaches fs f.lo g.hi ≡ true
    along (inl p) = subst (λ (k : ℕ). reaches fs f.lo (fact_at fs k).hi ≡ true) (sym p) (reaches-fact fs f (member-fact_at fs from inside))
    along (inr r) = reaches-trans fs _ _ _ (reaches-fact fs f (member-fact_at fs from inside)) (reaches-trans fs _ _ _ r (reaches-fact fs g (member-fact_at fs to inside_too)))

    chained : (rest : List Node) × IsChainFrom fs f.lo rest × (last_of f.lo rest ≡ g.hi)
    chained = Chained-from_reaches fs f.lo g.hi (along e)

-- facts with a contradiction are met by nothing
pub not-IsConsistent : (fs : List Fact) → HasContradiction fs → IsConsistent fs → ⊥
not-IsConsistent fs h c =
    let falls = h.falls in
    let order = orderly_from_IsConsistent fs c h.greater h.smaller (reaches-from_chain fs _ _ h.chain h.chain_is h.chain_runs) in
    absurd (omega (arith, ints))
