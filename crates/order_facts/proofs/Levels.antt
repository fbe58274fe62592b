-- The search level by level: what was reached after n levels is what is within n steps of the end.
use Rattle.std.proofs.Common.{◌≡◌, ℕ, zero, suc, ◌+◌, ◌-◌, ◌<◌, ◌≤◌, List, [], ◌∷◌, ◌++◌, length, take, true, false, ◌⊎◌, inl, inr, refl, sym, ap, ◌∙◌, subst, arith, length-append}
use Rattle.std.proofs.lemmas.Bool.{cases_lt, cases_Bool, false≢true}
use Rattle.std.proofs.lemmas.List.{append-nil, append_assoc, get_or_append_left, get_or-append_right, get_or_push, get_or-take, length-take-le}
use Rattle.prog_tree.proofs.Elements.{member_from_contains}
use Rattle.order_facts.specs.declared.steps.Node.{Node}
use Rattle.order_facts.specs.declared.steps.Fact.{Fact}
use Rattle.order_facts.specs.declared.search.Reached.{Reached}
use Rattle.order_facts.specs.Chain.{IsStep, IsChainFrom, last_of}
use Rattle.order_facts.specs.Reaches.{reaches, fact_at}
use Rattle.order_facts.specs.Search.{IsEnd, reached_at, HasReached, LeadsNearer, IsDescending, IsLink, IsTrail, IsFresh, ReachesBefore, Adds, IsGrown, Spreads}
use Rattle.order_facts.proofs.Chains.{Chained-from_reaches}
use Rattle.order_facts.proofs.Places.{place_of}
use Rattle.order_facts.proofs.Shortest.{IsCandidate, IsWithin, within-end, within-le, within-chain, rank, rank_of}

-- ---- the walk back

pub next-leads_nearer : (reached : List Reached) (k : ℕ) (at : Reached) → IsDescending reached → k < length reached → at ≡ reached_at reached k → 0 < at.steps → LeadsNearer reached at
next-leads_nearer reached k at d h e more = subst (λ (r : Reached). LeadsNearer reached r) (sym e) (go (d k h))
  where
    same : at.steps ≡ (reached_at reached k).steps
    same = ap (λ (r : Reached). r.steps) e

    go : ((reached_at reached k).steps ≡ 0) ⊎ LeadsNearer reached (reached_at reached k) → LeadsNearer reached (reached_at reached k)
    go (inl z) = let s = same in absurd (omega arith)
    go (inr l) = l

pub next-step : (facts : List Fact) (y : Node) (reached : List Reached) (k : ℕ) (at : Reached) → IsTrail facts y reached → k < length reached → at ≡ reached_at reached k → 0 < at.steps → IsStep facts at.node (reached_at reached at.next).node
next-step facts y reached k at t h e more = subst (λ (r : Reached). IsStep facts r.node (reached_at reached r.next).node) (sym e) (go (t k h))
  where
    same : at.steps ≡ (reached_at reached k).steps
    same = ap (λ (r : Reached). r.steps) e

    go : IsLink facts y reached (reached_at reached k) → IsStep facts (reached_at reached k).node (reached_at reached (reached_at reached k).next).node
    go (inl z) = let s = same in let w = z.0 in absurd (omega arith)
    go (inr l) = l.1

-- ---- more that was reached

at-old : (old more : List Reached) (k : ℕ) → k < length old → reached_at (old ++ more) k ≡ reached_at old k
at-old old more k h = get_or_append_left old more _ k h

at-more : (old more : List Reached) (k : ℕ) → length old ≤ k → reached_at (old ++ more) k ≡ reached_at more (k - length old)
at-more old more k h = get_or-append_right old more (length old) k _ refl h

HasReached-append : (old more : List Reached) (node : Node) → HasReached old node → HasReached (old ++ more) node
HasReached-append old more node h = (h.0, (let l = h.1 in omega (arith, length-append old more)), ap (λ (r : Reached). r.node) (at-old old more h.0 h.1) ∙ h.2)

-- ---- one level, end by end

pub HasReached-adds : (facts : List Fact) (cur new : List Reached) (known : ℕ) (node : Node) (steps : ℕ) → Adds facts cur new known node steps → (u : Node) → HasReached cur u → HasReached new u
HasReached-adds facts cur new known node steps a u h = go a.grows
  where
    go : (new ≡ cur) ⊎ ((r : Reached) × (new ≡ cur ++ r ∷ []) × IsFresh facts cur known steps r) → HasReached new u
    go (inl e) = subst (λ (w : List Reached). HasReached w u) (sym e) h
    go (inr g) = subst (λ (w : List Reached). HasReached w u) (sym g.1) (HasReached-append cur (g.0 ∷ []) u h)

pub IsGrown-adds : (facts : List Fact) (old cur new : List Reached) (node : Node) (steps : ℕ) → IsGrown facts old cur steps → Adds facts cur new (length old) node steps → IsGrown facts old new steps
IsGrown-adds facts old cur new node steps g a = go a.grows
  where
    go : (new ≡ cur) ⊎ ((r : Reached) × (new ≡ cur ++ r ∷ []) × IsFresh facts cur (length old) steps r) → IsGrown facts old new steps
    go (inl e) = subst (λ (w : List Reached). IsGrown facts old w steps) (sym e) g
    go (inr p) = record { more = g.more ++ p.0 ∷ []; appended = p.1 ∙ ap (λ (w : List Reached). w ++ p.0 ∷ []) g.appended ∙ append_assoc old g.more (p.0 ∷ []); fresh = fresh }
      where
        of_old : (k : ℕ) → k < length old → reached_at cur k ≡ reached_at old k
        of_old k h = ap (λ (w : List Reached). reached_at w k) g.appended ∙ at-old old g.more k h

        last : IsFresh facts old (length old) steps p.0
        last = record { steps_are = p.2.steps_are; next_known = p.2.next_known; step = subst (λ (r : Reached). IsStep facts p.0.node r.node) (of_old p.0.next p.2.next_known) p.2.step }

        fresh : (k : ℕ) → k < length (g.more ++ p.0 ∷ []) → IsFresh facts old (length old) steps (reached_at (g.more ++ p.0 ∷ []) k)
        fresh k h = at (cases_lt k (length g.more))
          where
            at : (k < length g.more) ⊎ (length g.more ≤ k) → IsFresh facts old (length old) steps (reached_at (g.more ++ p.0 ∷ []) k)
            at (inl l) = subst (λ (r : Reached). IsFresh facts old (length old) steps r) (sym (at-old g.more (p.0 ∷ []) k l)) (g.fresh k l)
            at (inr l) =
                let e : length g.more ≡ k = omega (arith, length-append g.more (p.0 ∷ [])) in
                subst (λ (r : Reached). IsFresh facts old (length old) steps r) (sym (get_or_push g.more p.0 _ k e)) last

pub before-adds : (facts : List Fact) (old cur new : List Reached) (node : Node) (steps : ℕ) → IsGrown facts old cur steps → Adds facts cur new (length old) node steps → ReachesBefore facts old new (length old) node
before-adds facts old cur new node steps g a k h s = a.reaches_node k h (subst (λ (r : Reached). IsStep facts node r.node) (sym (ap (λ (w : List Reached). reached_at w k) g.appended ∙ at-old old g.more k h)) s)

-- what is known of the first of them is known of all
pub Adds-none : (facts : List Fact) (old : List Reached) (known : ℕ) (node : Node) (steps : ℕ) → known ≤ length old → ((k : ℕ) → k < length (take known old) → IsStep facts node (reached_at (take known old) k).node → ⊥) → Adds facts old old known node steps
Adds-none facts old known node steps within none = record { grows = inl refl; reaches_node = λ k h s. absurd (none k (omega (arith, length-take-le known old within)) (subst (λ (r : Reached). IsStep facts node r.node) (sym (get_or-take known old k _ h)) s)) }

pub Adds-new : (facts : List Fact) (old new : List Reached) (known : ℕ) (node : Node) (steps next : ℕ) → known ≤ length old → next < length (take known old) → IsStep facts node (reached_at (take known old) next).node → new ≡ old ++ record { node = node; steps = steps; next = next } ∷ [] → Adds facts old new known node steps
Adds-new facts old new known node steps next within inside s e = record { grows = inr (record { node = node; steps = steps; next = next }, e, record { steps_are = refl; next_known = is_known; step = subst (λ (r : Reached). IsStep facts node r.node) (get_or-take known old next _ is_known) s }); reaches_node = λ k h t. subst (λ (w : List Reached). HasReached w node) (sym e) last }
  where
    is_known : next < known
    is_known = omega (arith, length-take-le known old within)

    last : HasReached (old ++ record { node = node; steps = steps; next = next } ∷ []) node
    last = (length old, omega (arith, length-append old (record { node = node; steps = steps; next = next } ∷ [])), ap (λ (r : Reached). r.node) (get_or_push old (record { node = node; steps = steps; next = next }) _ (length old) refl))

-- the level so far: both ends of the first facts
pub record IsSpreading (facts : List Fact) (old cur : List Reached) (steps count : ℕ) : Type 0 where
  pub grown : IsGrown facts old cur steps
  pub ends : (k : ℕ) → k < count → ReachesBefore facts old cur (length old) (fact_at facts k).lo × ReachesBefore facts old cur (length old) (fact_at facts k).hi

pub IsSpreading-more : (facts : List Fact) (old cur mid new : List Reached) (steps k : ℕ) → IsSpreading facts old cur steps k → Adds facts cur mid (length old) (fact_at facts k).lo steps → Adds facts mid new (length old) (fact_at facts k).hi steps → IsSpreading facts old new steps (k + 1)
IsSpreading-more facts old cur mid new steps k s a b = record { grown = IsGrown-adds facts old mid new _ steps grown b; ends = ends }
  where
    grown : IsGrown facts old mid steps
    grown = IsGrown-adds facts old cur mid _ steps s.grown a

    kept : (u : Node) → HasReached cur u → HasReached new u
    kept u h = HasReached-adds facts mid new _ _ steps b u (HasReached-adds facts cur mid _ _ steps a u h)

    ends : (i : ℕ) → i < k + 1 → ReachesBefore facts old new (length old) (fact_at facts i).lo × ReachesBefore facts old new (length old) (fact_at facts i).hi
    ends i h = at (cases_lt i k)
      where
        at : (i < k) ⊎ (k ≤ i) → ReachesBefore facts old new (length old) (fact_at facts i).lo × ReachesBefore facts old new (length old) (fact_at facts i).hi
        at (inl l) = (λ j m t. kept _ ((s.ends i l).0 j m t), λ j m t. kept _ ((s.ends i l).1 j m t))
        at (inr l) =
            let e : k ≡ i = omega arith in
            subst (λ n. ReachesBefore facts old new (length old) (fact_at facts n).lo × ReachesBefore facts old new (length old) (fact_at facts n).hi) e
            (λ j m t. HasReached-adds facts mid new _ _ steps b _ (before-adds facts old cur mid _ steps s.grown a j m t), before-adds facts old mid new _ steps grown b)

pub Spreads-from_all : (facts : List Fact) (old new : List Reached) (steps count : ℕ) → length facts ≤ count → IsSpreading facts old new steps count → Spreads facts old new steps
Spreads-from_all facts old new steps count all s = record { grown = s.grown; ends = λ node e. from node e.0 (place_of facts e.0 (member_from_contains facts e.0 e.1)) e.2 }
  where
    from : (node : Node) (f : Fact) → (p : (k : ℕ) × (k < length facts) × (fact_at facts k ≡ f)) → (f.lo ≡ node) ⊎ (f.hi ≡ node) → ReachesBefore facts old new (length old) node
    from node f p (inl e) = subst (λ (n : Node). ReachesBefore facts old new (length old) n) (ap (λ (g : Fact). g.lo) p.2 ∙ e) (s.ends p.0 (let h = p.1 in omega arith)).0
    from node f p (inr e) = subst (λ (n : Node). ReachesBefore facts old new (length old) n) (ap (λ (g : Fact). g.hi) p.2 ∙ e) (s.ends p.0 (let h = p.1 in omega arith)).1

-- ---- level after level

pub record IsLevel (facts : List Fact) (x y : Node) (reached : List Reached) (n : ℕ) : Type 0 where
  pub trail : IsTrail facts y reached
  pub deep : (k : ℕ) → k < length reached → (reached_at reached k).steps ≤ n
  pub complete : (u : Node) → IsCandidate facts y u → IsWithin facts y n u → HasReached reached u
  pub apart : IsWithin facts y n x → ⊥
  pub room : n < length reached

module _ (facts : List Fact) (x y : Node) (old : List Reached) (n : ℕ) (l : IsLevel facts x y old n) (none : (k : ℕ) → k < length old → IsStep facts x (reached_at old k).node → ⊥) where
  -- x is no step from what was reached, so it is not within one step more
  pub apart-next : IsWithin facts y (suc n) x → ⊥
  apart-next (inl w) = l.apart w
  apart-next (inr w) = go (l.complete w.0 w.1 w.3)
    where
      go : HasReached old w.0 → ⊥
      go h = none h.0 h.1 (subst (λ (u : Node). IsStep facts x u) (sym h.2) w.2)

  -- the node y itself was reached
  reached_end : (u : Node) → u ≡ y → HasReached old u
  reached_end u e = l.complete u (inr e) (subst (λ (v : Node). IsWithin facts y n v) (sym e) (within-end facts y n))

  -- where nothing more is reached, no chain leads from x to y
  module _ (closed : (u : Node) → IsEnd facts u → (k : ℕ) → k < length old → IsStep facts u (reached_at old k).node → HasReached old u) where
    all_reached : (m : ℕ) (u : Node) → IsCandidate facts y u → IsWithin facts y m u → HasReached old u
    all_reached zero u c w = reached_end u w
    all_reached (suc m) u c (inl w) = all_reached m u c w
    all_reached (suc m) u c (inr w) = go c (all_reached m w.0 w.1 w.3)
      where
        go : IsCandidate facts y u → HasReached old w.0 → HasReached old u
        go (inl e) h = closed u e h.0 h.1 (subst (λ (v : Node). IsStep facts u v) (sym h.2) w.2)
        go (inr e) h = reached_end u e

    pub never-within : (m : ℕ) → IsWithin facts y m x → ⊥
    never-within zero w = l.apart (subst (λ (v : Node). IsWithin facts y n v) (sym w) (within-end facts y n))
    never-within (suc m) (inl w) = never-within m w
    never-within (suc m) (inr w) = go (all_reached m w.0 w.1 w.3)
      where
        go : HasReached old w.0 → ⊥
        go h = none h.0 h.1 (subst (λ (u : Node). IsStep facts x u) (sym h.2) w.2)

  module _ (e : reaches facts x y ≡ true) (new : List Reached) (s : Spreads facts old new (suc n)) where
    more : List Reached
    more = s.grown.more

    within-some : (m : ℕ) × IsWithin facts y m x
    within-some = let c = Chained-from_reaches facts x y e in (length c.0, within-chain facts y c.0 x c.1 c.2)

    grows : (rest : List Reached) → new ≡ old ++ rest → length old < length new
    grows [] p = absurd (never-within closed within-some.0 within-some.1)
      where
        same : new ≡ old
        same = p ∙ append-nil old

        closed : (u : Node) → IsEnd facts u → (k : ℕ) → k < length old → IsStep facts u (reached_at old k).node → HasReached old u
        closed u i k h t = subst (λ (w : List Reached). HasReached w u) same (s.ends u i k h t)
    grows (r ∷ rest) p = let q = ap length p in omega (arith, length-append old (r ∷ rest))

    kept : (u : Node) → HasReached old u → HasReached new u
    kept u h = subst (λ (w : List Reached). HasReached w u) (sym s.grown.appended) (HasReached-append old s.grown.more u h)

    complete : (u : Node) → IsCandidate facts y u → IsWithin facts y (suc n) u → HasReached new u
    complete u c (inl w) = kept u (l.complete u c w)
    complete u c (inr w) = go c (l.complete w.0 w.1 w.3)
      where
        go : IsCandidate facts y u → HasReached old w.0 → HasReached new u
        go (inl i) h = s.ends u i h.0 h.1 (subst (λ (v : Node). IsStep facts u v) (sym h.2) w.2)
        go (inr i) h = kept u (reached_end u i)

    of_old : (k : ℕ) → k < length old → reached_at (old ++ s.grown.more) k ≡ reached_at old k
    of_old k h = at-old old s.grown.more k h

    wide : (k : ℕ) → k < length old → k < length (old ++ s.grown.more)
    wide k h = omega (arith, length-append old s.grown.more)

    -- what held of the old links holds of them in the longer list
    old_link : (r : Reached) → IsLink facts y old r → IsLink facts y (old ++ s.grown.more) r
    old_link r (inl z) = inl z
    old_link r (inr p) = let same = of_old r.next p.0.0 in inr ((wide r.next p.0.0, subst (λ (q : Reached). q.steps < r.steps) (sym same) p.0.1), subst (λ (q : Reached). IsStep facts r.node q.node) (sym same) p.1)

    new_link : (r : Reached) → IsFresh facts old (length old) (suc n) r → IsLink facts y (old ++ s.grown.more) r
    new_link r f =
        let same = of_old r.next f.next_known in
        let d = l.deep r.next f.next_known in
        let a = f.steps_are in
        let less : (reached_at old r.next).steps < r.steps = omega arith in
        inr ((wide r.next f.next_known, subst (λ (q : Reached). q.steps < r.steps) (sym same) less), subst (λ (q : Reached). IsStep facts r.node q.node) (sym same) f.step)

    each : (P : Reached → Type 0) → ((k : ℕ) → k < length old → P (reached_at old k)) → ((r : Reached) → IsFresh facts old (length old) (suc n) r → P r) → (k : ℕ) → k < length (old ++ s.grown.more) → P (reached_at (old ++ s.grown.more) k)
    each P before after k h = go (cases_lt k (length old))
      where
        go : (k < length old) ⊎ (length old ≤ k) → P (reached_at (old ++ s.grown.more) k)
        go (inl m) = subst P (sym (of_old k m)) (before k m)
        go (inr m) = subst P (sym (at-more old s.grown.more k m)) (after _ (s.grown.fresh (k - length old) (omega (arith, length-append old s.grown.more))))

    trail : IsTrail facts y new
    trail = subst (λ (w : List Reached). IsTrail facts y w) (sym s.grown.appended) (each (λ r. IsLink facts y (old ++ s.grown.more) r) (λ k h. old_link _ (l.trail k h)) new_link)

    deep : (k : ℕ) → k < length new → (reached_at new k).steps ≤ suc n
    deep = subst (λ (w : List Reached). (k : ℕ) → k < length w → (reached_at w k).steps ≤ suc n) (sym s.grown.appended) (each (λ r. r.steps ≤ suc n) (λ k h. let d = l.deep k h in omega arith) (λ r f. let a = f.steps_are in omega arith))

    pub IsLevel-next : IsLevel facts x y new (suc n)
    IsLevel-next = record { trail = trail; deep = deep; complete = complete; apart = apart-next; room = (let g = grows s.grown.more s.grown.appended in let r = l.room in omega arith) }

-- the search ends: a chain takes more steps than the levels that did not find it
pub below-rank : (facts : List Fact) (x y : Node) (n : ℕ) → reaches facts x y ≡ true → (IsWithin facts y n x → ⊥) → n < rank_of facts x y
unfolding rank
below-rank facts x y n e far = go (cases_Bool (reaches facts x y))
  where
    go : (s : (reaches facts x y ≡ true) ⊎ (reaches facts x y ≡ false)) → n < rank facts y x s
    go (inl r) = at (cases_lt n (length c.0))
      where
        c : (rest : List Node) × IsChainFrom facts x rest × (last_of x rest ≡ y)
        c = Chained-from_reaches facts x y r

        at : (n < length c.0) ⊎ (length c.0 ≤ n) → n < length c.0
        at (inl l) = l
        at (inr l) = absurd (far (within-le facts y (length c.0) n x l (within-chain facts y c.0 x c.1 c.2)))
    go (inr r) = absurd (false≢true (sym r ∙ e))
