-- Which node reaches which: a test by recursion on the facts, and that it is exact.
use Rattle.std.proofs.Common.{◌≡◌, List, [], ◌∷◌, Bool, true, false, ◌&&◌, ℤ, ◌≤ℤ◌, ◌⊎◌, ◌↔◌, inl, inr, refl, sym, ap, ◌∙◌, subst, arith}
use lib.Signed.{le_z, ≤ℤ_refl}
use lib.Dec.{T}
use Rattle.std.proofs.lemmas.Bool.{or_cases, and_parts, and_from, eqb-true, eq-eqb, false≢true, cases_Bool, or_left, or_right}
use Rattle.std.proofs.lemmas.Int.{ints}
use Rattle.prog_tree.proofs.Elements.{IsMember}
use Rattle.order_facts.specs.declared.steps.Node.{Node}
use Rattle.order_facts.specs.declared.steps.Node.TheVariants.{Mine, MineUnknown, Theirs, TheirsUnknown, Number}
use Rattle.order_facts.specs.declared.steps.Fact.{Fact}
use Rattle.order_facts.specs.Reaches.{is_same_unknown, is_below, reaches}
use Rattle.order_facts.specs.Chain.{floor_of, ceiling_of}

-- ---- tests

T-true : (b : Bool) → T b → b ≡ true
T-true true t = refl
T-true false t = absurd t

pub le_z-true : (a b : ℤ) → le_z a b ≡ true → a ≤ℤ b
le_z-true a b e = record { le = subst (λ (t : Bool). T t) (sym e) tt }

pub ≤ℤ-le_z : (a b : ℤ) → a ≤ℤ b → le_z a b ≡ true
≤ℤ-le_z a b h = T-true (le_z a b) h.le

-- ---- nodes that are the same, or in order whatever the facts

pub is_same_unknown-true : (x y : Node) → is_same_unknown x y ≡ true → x ≡ y
is_same_unknown-true (Mine i) (Mine j) e = ap Mine (eqb-true i j e)
is_same_unknown-true (MineUnknown i) (MineUnknown j) e = ap MineUnknown (eqb-true i j e)
is_same_unknown-true (Theirs i) (Theirs j) e = ap Theirs (eqb-true i j e)
is_same_unknown-true (TheirsUnknown i) (TheirsUnknown j) e = ap TheirsUnknown (eqb-true i j e)
is_same_unknown-true _ _ e = absurd (false≢true e)

pub floor-ceiling : (x : Node) → floor_of x ≤ℤ ceiling_of x
floor-ceiling (Number k) = omega (arith, ints)
floor-ceiling _ = omega (arith, ints)

pub is_below-cases : (x y : Node) → is_below x y ≡ true → (x ≡ y) ⊎ (ceiling_of x ≤ℤ floor_of y)
unfolding is_below
is_below-cases x y e = go (or_cases (is_same_unknown x y) (le_z (ceiling_of x) (floor_of y)) e)
  where
    go : (is_same_unknown x y ≡ true) ⊎ (le_z (ceiling_of x) (floor_of y) ≡ true) → (x ≡ y) ⊎ (ceiling_of x ≤ℤ floor_of y)
    go (inl a) = inl (is_same_unknown-true x y a)
    go (inr b) = inr (le_z-true _ _ b)

pub is_below-refl : (x : Node) → is_below x x ≡ true
unfolding is_below
is_below-refl (Mine i) = or_left _ _ (eq-eqb i i refl)
is_below-refl (MineUnknown i) = or_left _ _ (eq-eqb i i refl)
is_below-refl (Theirs i) = or_left _ _ (eq-eqb i i refl)
is_below-refl (TheirsUnknown i) = or_left _ _ (eq-eqb i i refl)
is_below-refl (Number k) = or_right false _ (≤ℤ-le_z k k (≤ℤ_refl k))

pub is_below-plain : (x y : Node) → ceiling_of x ≤ℤ floor_of y → is_below x y ≡ true
unfolding is_below
is_below-plain x y h = or_right (is_same_unknown x y) _ (≤ℤ-le_z _ _ h)

pub is_below-trans : (x y z : Node) → is_below x y ≡ true → is_below y z ≡ true → is_below x z ≡ true
is_below-trans x y z a b = go (is_below-cases x y a) (is_below-cases y z b)
  where
    go : (x ≡ y) ⊎ (ceiling_of x ≤ℤ floor_of y) → (y ≡ z) ⊎ (ceiling_of y ≤ℤ floor_of z) → is_below x z ≡ true
    go (inl e) _ = rw e b
    go (inr h) (inl e) = rw (← e) a
    go (inr h) (inr k) = is_below-plain x z (let m = floor-ceiling y in omega (arith, ints))

-- ---- reaching by facts

pub reaches-old : (f : Fact) (fs : List Fact) (x y : Node) → reaches fs x y ≡ true → reaches (f ∷ fs) x y ≡ true
unfolding reaches
reaches-old f fs x y e = or_left _ _ e

pub reaches-new : (f : Fact) (fs : List Fact) (x y : Node) → reaches fs x f.lo ≡ true → reaches fs f.hi y ≡ true → reaches (f ∷ fs) x y ≡ true
unfolding reaches
reaches-new f fs x y a b = or_right (reaches fs x y) _ (and_from _ _ a b)

pub reaches-cases : (f : Fact) (fs : List Fact) (x y : Node) → reaches (f ∷ fs) x y ≡ true → (reaches fs x y ≡ true) ⊎ ((reaches fs x f.lo ≡ true) × (reaches fs f.hi y ≡ true))
unfolding reaches
reaches-cases f fs x y e = go (or_cases (reaches fs x y) (reaches fs x f.lo && reaches fs f.hi y) e)
  where
    go : (reaches fs x y ≡ true) ⊎ ((reaches fs x f.lo && reaches fs f.hi y) ≡ true) → (reaches fs x y ≡ true) ⊎ ((reaches fs x f.lo ≡ true) × (reaches fs f.hi y ≡ true))
    go (inl a) = inl a
    go (inr b) = inr (and_parts (reaches fs x f.lo) (reaches fs f.hi y) b)

pub reaches-below : (fs : List Fact) (x y : Node) → is_below x y ≡ true → reaches fs x y ≡ true
unfolding reaches
reaches-below [] x y e = e
reaches-below (f ∷ fs) x y e = reaches-old f fs x y (reaches-below fs x y e)

pub reaches-refl : (fs : List Fact) (x : Node) → reaches fs x x ≡ true
reaches-refl fs x = reaches-below fs x x (is_below-refl x)

pub reaches-fact : (fs : List Fact) (f : Fact) → IsMember f fs → reaches fs f.lo f.hi ≡ true
reaches-fact [] f i = absurd i
reaches-fact (g ∷ gs) f (inl e) = rw (← e) (reaches-new g gs g.lo g.hi (reaches-refl gs g.lo) (reaches-refl gs g.hi))
reaches-fact (g ∷ gs) f (inr i) = reaches-old g gs f.lo f.hi (reaches-fact gs f i)

pub reaches-trans : (fs : List Fact) (x y z : Node) → reaches fs x y ≡ true → reaches fs y z ≡ true → reaches fs x z ≡ true
unfolding reaches
reaches-trans [] x y z a b = is_below-trans x y z a b
reaches-trans (f ∷ fs) x y z a b = go (reaches-cases f fs x y a) (reaches-cases f fs y z b) (reaches-trans fs x y z) (reaches-trans fs x y f.lo) (reaches-trans fs f.hi y z)
  where
    go : (reaches fs x y ≡ true) ⊎ ((reaches fs x f.lo ≡ true) × (reaches fs f.hi y ≡ true)) → (reaches fs y z ≡ true) ⊎ ((reaches fs y f.lo ≡ true) × (reaches fs f.hi z ≡ true)) → (reaches fs x y ≡ true → reaches fs y z ≡ true → reaches fs x z ≡ true) → (reaches fs x y ≡ true → reaches fs y f.lo ≡ true → reaches fs x f.lo ≡ true) → (reaches fs f.hi y ≡ true → reaches fs y z ≡ true → reaches fs f.hi z ≡ true) → reaches (f ∷ fs) x z ≡ true
    go (inl p) (inl q) both front back = reaches-old f fs x z (both p q)
    go (inl p) (inr q) both front back = reaches-new f fs x z (front p q.0) q.1
    go (inr p) (inl q) both front back = reaches-new f fs x z p.0 (back p.1 q)
    go (inr p) (inr q) both front back = reaches-new f fs x z p.0 q.1

-- the first fact on the way from x to y, if there is one
pub reaches-first : (fs : List Fact) (x y : Node) → reaches fs x y ≡ true → (is_below x y ≡ true) ⊎ ((g : Fact) × IsMember g fs × (is_below x g.lo ≡ true) × (reaches fs g.hi y ≡ true))
unfolding reaches
reaches-first [] x y e = inl e
reaches-first (f ∷ fs) x y e = go (reaches-cases f fs x y e) (reaches-first fs x y) (reaches-first fs x f.lo)
  where
    go : (reaches fs x y ≡ true) ⊎ ((reaches fs x f.lo ≡ true) × (reaches fs f.hi y ≡ true)) → (reaches fs x y ≡ true → (is_below x y ≡ true) ⊎ ((g : Fact) × IsMember g fs × (is_below x g.lo ≡ true) × (reaches fs g.hi y ≡ true))) → (reaches fs x f.lo ≡ true → (is_below x f.lo ≡ true) ⊎ ((g : Fact) × IsMember g fs × (is_below x g.lo ≡ true) × (reaches fs g.hi f.lo ≡ true))) → (is_below x y ≡ true) ⊎ ((g : Fact) × IsMember g (f ∷ fs) × (is_below x g.lo ≡ true) × (reaches (f ∷ fs) g.hi y ≡ true))
    go (inl p) whole front = old (whole p)
      where
        old : (is_below x y ≡ true) ⊎ ((g : Fact) × IsMember g fs × (is_below x g.lo ≡ true) × (reaches fs g.hi y ≡ true)) → (is_below x y ≡ true) ⊎ ((g : Fact) × IsMember g (f ∷ fs) × (is_below x g.lo ≡ true) × (reaches (f ∷ fs) g.hi y ≡ true))
        old (inl a) = inl a
        old (inr w) = inr (w.0, inr w.1, w.2, reaches-old f fs _ _ w.3)
    go (inr p) whole front = new (front p.0)
      where
        new : (is_below x f.lo ≡ true) ⊎ ((g : Fact) × IsMember g fs × (is_below x g.lo ≡ true) × (reaches fs g.hi f.lo ≡ true)) → (is_below x y ≡ true) ⊎ ((g : Fact) × IsMember g (f ∷ fs) × (is_below x g.lo ≡ true) × (reaches (f ∷ fs) g.hi y ≡ true))
        new (inl a) = inr (f, inl refl, a, reaches-old f fs _ _ p.1)
        new (inr w) = inr (w.0, inr w.1, w.2, reaches-new f fs _ _ w.3 p.1)

-- the last fact on the way from x to y, if there is one
pub reaches-last : (fs : List Fact) (x y : Node) → reaches fs x y ≡ true → (is_below x y ≡ true) ⊎ ((g : Fact) × IsMember g fs × (reaches fs x g.lo ≡ true) × (is_below g.hi y ≡ true))
unfolding reaches
reaches-last [] x y e = inl e
reaches-last (f ∷ fs) x y e = go (reaches-cases f fs x y e) (reaches-last fs x y) (reaches-last fs f.hi y)
  where
    go : (reaches fs x y ≡ true) ⊎ ((reaches fs x f.lo ≡ true) × (reaches fs f.hi y ≡ true)) → (reaches fs x y ≡ true → (is_below x y ≡ true) ⊎ ((g : Fact) × IsMember g fs × (reaches fs x g.lo ≡ true) × (is_below g.hi y ≡ true))) → (reaches fs f.hi y ≡ true → (is_below f.hi y ≡ true) ⊎ ((g : Fact) × IsMember g fs × (reaches fs f.hi g.lo ≡ true) × (is_below g.hi y ≡ true))) → (is_below x y ≡ true) ⊎ ((g : Fact) × IsMember g (f ∷ fs) × (reaches (f ∷ fs) x g.lo ≡ true) × (is_below g.hi y ≡ true))
    go (inl p) whole back = old (whole p)
      where
        old : (is_below x y ≡ true) ⊎ ((g : Fact) × IsMember g fs × (reaches fs x g.lo ≡ true) × (is_below g.hi y ≡ true)) → (is_below x y ≡ true) ⊎ ((g : Fact) × IsMember g (f ∷ fs) × (reaches (f ∷ fs) x g.lo ≡ true) × (is_below g.hi y ≡ true))
        old (inl a) = inl a
        old (inr w) = inr (w.0, inr w.1, reaches-old f fs _ _ w.2, w.3)
    go (inr p) whole back = new (back p.1)
      where
        new : (is_below f.hi y ≡ true) ⊎ ((g : Fact) × IsMember g fs × (reaches fs f.hi g.lo ≡ true) × (is_below g.hi y ≡ true)) → (is_below x y ≡ true) ⊎ ((g : Fact) × IsMember g (f ∷ fs) × (reaches (f ∷ fs) x g.lo ≡ true) × (is_below g.hi y ≡ true))
        new (inl a) = inr (f, inl refl, reaches-old f fs _ _ p.0, a)
        new (inr w) = inr (w.0, inr w.1, reaches-new f fs _ _ p.0 w.2, w.3)

-- what the code computes
pub is_below-from_same : (x y : Node) (r : Bool) → r ≡ true → x ≡ y → r ≡ is_below x y
is_below-from_same x y r t e = t ∙ sym (rw e (is_below-refl y))

pub is_below-from_plain : (x y : Node) (r : Bool) → (x ≡ y → ⊥) → ((r ≡ true) ↔ (ceiling_of x ≤ℤ floor_of y)) → r ≡ is_below x y
is_below-from_plain x y true ne h = sym (is_below-plain x y (h.0 refl))
is_below-from_plain x y false ne h = go (cases_Bool (is_below x y))
  where
    go : (is_below x y ≡ true) ⊎ (is_below x y ≡ false) → false ≡ is_below x y
    go (inl e) = cases (is_below-cases x y e)
      where
        cases : (x ≡ y) ⊎ (ceiling_of x ≤ℤ floor_of y) → false ≡ is_below x y
        cases (inl p) = absurd (ne p)
        cases (inr p) = absurd (false≢true (h.1 p))
    go (inr e) = sym e
