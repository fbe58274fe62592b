-- An order of the instances in which no dependency runs backward gives each instance its own looks, and the same last state.
use Rattle.std.specs.Prelude.{◌≡◌, ℕ, List, [], ◌∷◌, Option, Some, None, unwrap_or, ◌⊎◌, ◌<◌, ◌≤◌, ◌+◌}
use Rattle.std.proofs.Common.{inl, inr, refl, sym, ap, ◌∙◌, subst, arith, zero, suc}
use Rattle.std.proofs.lemmas.Bool.{cases_lt}
use Rattle.prog_tree.proofs.Elements.{IsMember}
use Rattle.serial_orders.specs.Orders.{IsUpTo}
use Rattle.serial_orders.proofs.DependencyRelations.{DependsBy}
use Rattle.serial_orders.proofs.InTurn.{IsPlaced}

pub up_to-placed : (n : ℕ) (R : ℕ → ℕ → Type 0) (xs : List ℕ) (j : ℕ) → IsPlaced n R xs → IsMember j xs → IsUpTo n j
up_to-placed n R [] j p m = absurd m
up_to-placed n R (x ∷ xs) j p (inl e) = subst (IsUpTo n) e p.0.0
up_to-placed n R (x ∷ xs) j p (inr m) = up_to-placed n R xs j p.1 m

-- whatever one of them depends on is among them
member-placed : (n : ℕ) (R : ℕ → ℕ → Type 0) (xs : List ℕ) (i j : ℕ) → IsPlaced n R xs → IsMember j xs → IsUpTo n i → R i j → IsMember i xs
member-placed n R [] i j p m up r = absurd m
member-placed n R (x ∷ xs) i j p (inl e) up r = inr (p.0.2 i up (subst (λ k. R i k) (sym e) r))
member-placed n R (x ∷ xs) i j p (inr m) up r = inr (member-placed n R xs i j p.1 m up r)

module _ (C W E M : Type 0) (at : M → C → W) (change_of : E → C → Option W) (apply : E → M → M) (apply-at : (e : E) (m : M) (c : C) → at (apply e m) c ≡ unwrap_or (change_of e c) (at m c)) (opening : M) (count : ℕ) (start : ℕ → ℕ) (eval : ℕ → M → E) (looks : ℕ → C → Type 0) (state : ℕ → M) (IsFine : M → Type 0) (apply-fine : (e : E) (m : M) → IsFine m → IsFine (apply e m)) where
  -- what instance i did
  abbrev pub did : ℕ → E
  did i = eval i (state (start i))

  abbrev pub Changes : ℕ → C → Type 0
  Changes i c = (w : W) × (change_of (did i) c ≡ Some w)

  -- the state after each instance in turn, the latest first
  abbrev pub after : List ℕ → M
  after [] = opening
  after (i ∷ earlier) = apply (eval i (after earlier)) (after earlier)

  -- the same, each doing what it did
  abbrev replayed : List ℕ → M
  replayed [] = opening
  replayed (i ∷ earlier) = apply (did i) (replayed earlier)

  -- the states of the history, and that an evaluation depends on its looks alone
  pub record IsRun : Type 0 where
    pub starts : (i : ℕ) → IsUpTo count i → start i < i
    pub state-zero : state 0 ≡ opening
    pub state-suc : (k : ℕ) → IsUpTo count (k + 1) → state (k + 1) ≡ apply (did (k + 1)) (state k)
    pub fine : IsFine opening
    pub by_looks : (i : ℕ) (m : M) → IsUpTo count i → IsFine m → ((c : C) → looks i c → at m c ≡ at (state (start i)) c) → eval i m ≡ did i

  -- the value at c that the instances of S leave: the last one's change, or the opening value
  pub record Leaves (S : ℕ → Type 0) (c : C) (w : W) : Type 0 where
    pub value : ((j : ℕ) × S j × (change_of (did j) c ≡ Some w) × ((i : ℕ) → S i → Changes i c → i ≤ j)) ⊎ (((i : ℕ) → S i → Changes i c → ⊥) × (w ≡ at opening c))

  -- the same instances that change c leave the same value
  leaves_same : (S T : ℕ → Type 0) (c : C) (w u : W) → ((i : ℕ) → Changes i c → S i → T i) → ((i : ℕ) → Changes i c → T i → S i) → Leaves S c w → Leaves T c u → w ≡ u
  leaves_same S T c w u to back l r = go l.value r.value
    where
      some_same : (x y : W) → Some x ≡ Some y → x ≡ y
      some_same x y e = cc

      go : ((j : ℕ) × S j × (change_of (did j) c ≡ Some w) × ((i : ℕ) → S i → Changes i c → i ≤ j)) ⊎ (((i : ℕ) → S i → Changes i c → ⊥) × (w ≡ at opening c)) → ((j : ℕ) × T j × (change_of (did j) c ≡ Some u) × ((i : ℕ) → T i → Changes i c → i ≤ j)) ⊎ (((i : ℕ) → T i → Changes i c → ⊥) × (u ≡ at opening c)) → w ≡ u
      go (inl a) (inl b) =
          let up = b.3 a.0 (to a.0 (w, a.2) a.1) (w, a.2) in
          let down = a.3 b.0 (back b.0 (u, b.2) b.1) (u, b.2) in
          let e : a.0 ≡ b.0 = omega arith in
          some_same w u (sym a.2 ∙ ap (λ n. change_of (did n) c) e ∙ b.2)
      go (inl a) (inr b) = absurd (b.0 a.0 (to a.0 (w, a.2) a.1) (w, a.2))
      go (inr a) (inl b) = absurd (a.0 b.0 (back b.0 (u, b.2) b.1) (u, b.2))
      go (inr a) (inr b) = a.1 ∙ sym b.1

  -- one more instance, above all that change c before it
  leaves_more : (S T : ℕ → Type 0) (i : ℕ) (m : M) (c : C) → ((j : ℕ) → T j → (i ≡ j) ⊎ S j) → T i → ((j : ℕ) → S j → T j) → ((j : ℕ) → S j → Changes j c → Changes i c → j ≤ i) → Leaves S c (at m c) → Leaves T c (at (apply (did i) m) c)
  leaves_more S T i m c split one old order l = go (change_of (did i) c) refl
    where
      rest : (o : Option W) → change_of (did i) c ≡ o → (j : ℕ) → (i ≡ j) ⊎ S j → Changes j c → (o ≡ None) → S j
      rest o e j (inl p) h n = absurd (impossible h)
        where
          impossible : Changes j c → ⊥
          impossible (w, k) = let q : change_of (did j) c ≡ None = ap (λ x. change_of (did x) c) (sym p) ∙ e ∙ n in cc
      rest o e j (inr s) h n = s

      go : (o : Option W) → change_of (did i) c ≡ o → Leaves T c (at (apply (did i) m) c)
      go (Some w) e = record { value = inl (i, one, e ∙ ap Some (sym (apply-at (did i) m c ∙ ap (λ o. unwrap_or o (at m c)) e)), above) }
        where
          above : (j : ℕ) → T j → Changes j c → j ≤ i
          above j t h = cases (split j t)
            where
              cases : (i ≡ j) ⊎ S j → j ≤ i
              cases (inl p) = omega arith
              cases (inr s) = order j s h (w, e)
      go None e = record { value = same l.value }
        where
          kept : at (apply (did i) m) c ≡ at m c
          kept = apply-at (did i) m c ∙ ap (λ o. unwrap_or o (at m c)) e

          same : ((j : ℕ) × S j × (change_of (did j) c ≡ Some (at m c)) × ((i : ℕ) → S i → Changes i c → i ≤ j)) ⊎ (((i : ℕ) → S i → Changes i c → ⊥) × (at m c ≡ at opening c)) → ((j : ℕ) × T j × (change_of (did j) c ≡ Some (at (apply (did i) m) c)) × ((i : ℕ) → T i → Changes i c → i ≤ j)) ⊎ (((i : ℕ) → T i → Changes i c → ⊥) × (at (apply (did i) m) c ≡ at opening c))
          same (inl a) = inl (a.0, old a.0 a.1, a.2 ∙ ap Some (sym kept), λ j t h. a.3 j (rest None e j (split j t) h refl) h)
          same (inr a) = inr (λ j t h. a.0 j (rest None e j (split j t) h refl) h, kept ∙ a.1)

  -- ---- the states of the history, and the order

  abbrev UpTo : ℕ → ℕ → Type 0
  UpTo k j = (1 ≤ j) × (j ≤ k)

  abbrev pub Dependency : ℕ → ℕ → Type 0
  Dependency i j = DependsBy C start looks Changes i j

  module _ (run : IsRun) where
    state_leaves : (k : ℕ) (c : C) → k ≤ count → Leaves (UpTo k) c (at (state k) c)
    state_leaves zero c h = record { value = inr ((λ j t w. let a = t.0 in let b = t.1 in omega arith), ap (λ m. at m c) run.state-zero) }
    state_leaves (suc k) c h = subst (λ (m : M). Leaves (UpTo (suc k)) c (at m c)) (sym next) (leaves_more (UpTo k) (UpTo (suc k)) (suc k) (state k) c split (omega arith, omega arith) (λ j t. (t.0, let b = t.1 in omega arith)) (λ j t a b. let b = t.1 in omega arith) (state_leaves k c (omega arith)))
      where
        plus : k + 1 ≡ suc k
        plus = omega arith

        next : state (suc k) ≡ apply (did (suc k)) (state k)
        next = subst (λ n. state n ≡ apply (did n) (state k)) plus (run.state-suc k (omega arith, omega arith))

        split : (j : ℕ) → UpTo (suc k) j → (suc k ≡ j) ⊎ UpTo k j
        split j t = cases (cases_lt j (suc k))
          where
            cases : (j < suc k) ⊎ (suc k ≤ j) → (suc k ≡ j) ⊎ UpTo k j
            cases (inl l) = inr (t.0, omega arith)
            cases (inr l) = inl (let b = t.1 in omega arith)

    replayed_leaves : (xs : List ℕ) (c : C) → IsPlaced count Dependency xs → Leaves (λ j. IsMember j xs) c (at (replayed xs) c)
    replayed_leaves [] c p = record { value = inr ((λ j m w. m), refl) }
    replayed_leaves (i ∷ earlier) c p = leaves_more (λ j. IsMember j earlier) (λ j. IsMember j (i ∷ earlier)) i (replayed earlier) c (λ j m. m) (inl refl) (λ j m. inr m) order (replayed_leaves earlier c p.1)
      where
        order : (j : ℕ) → IsMember j earlier → Changes j c → Changes i c → j ≤ i
        order j m wj wi = cases (cases_lt i j)
          where
            cases : (i < j) ⊎ (j ≤ i) → j ≤ i
            cases (inl l) = absurd (p.0.1 (member-placed count Dependency earlier i j p.1 m p.0.0 (inl (record { cell = c; before = l; first = wi; second = wj }))))
            cases (inr l) = l

    -- what stands before i and changes a cell that i looks at is what its snapshot has
    looks_agree : (i : ℕ) (earlier : List ℕ) → IsPlaced count Dependency (i ∷ earlier) → (c : C) → looks i c → at (replayed earlier) c ≡ at (state (start i)) c
    looks_agree i earlier p c look = leaves_same (λ j. IsMember j earlier) (UpTo (start i)) c _ _ to back (replayed_leaves earlier c p.1) (state_leaves (start i) c (let l = run.starts i p.0.0 in let b = p.0.0.1 in omega arith))
      where
        to : (j : ℕ) → Changes j c → IsMember j earlier → UpTo (start i) j
        to j w m = (one.0, cases (cases_lt (start i) j))
          where
            one : IsUpTo count j
            one = up_to-placed count Dependency earlier j p.1 m

            other : i ≡ j → ⊥
            other e = p.0.1 (subst (λ n. IsMember n earlier) (sym e) m)

            cases : (start i < j) ⊎ (j ≤ start i) → j ≤ start i
            cases (inl l) = absurd (p.0.1 (member-placed count Dependency earlier i j p.1 m p.0.0 (inr (inr (record { cell = c; other = other; unseen = l; look = look; change = w })))))
            cases (inr l) = l

        back : (j : ℕ) → Changes j c → UpTo (start i) j → IsMember j earlier
        back j w t = p.0.2 j (t.0, (let l = run.starts i p.0.0 in let a = t.1 in let b = p.0.0.1 in omega arith)) (inr (inl (record { cell = c; seen = t.1; change = w; look = look })))

    replayed-fine : (xs : List ℕ) → IsFine (replayed xs)
    replayed-fine [] = run.fine
    replayed-fine (i ∷ earlier) = apply-fine (did i) (replayed earlier) (replayed-fine earlier)

    -- run one after another, each does what it did
    pub after-is_replayed : (xs : List ℕ) → IsPlaced count Dependency xs → after xs ≡ replayed xs
    after-is_replayed [] p = refl
    after-is_replayed (i ∷ earlier) p =
        let e = after-is_replayed earlier p.1 in
        let d : eval i (replayed earlier) ≡ did i = run.by_looks i (replayed earlier) p.0.0 (replayed-fine earlier) (looks_agree i earlier p) in
        ap (λ m. apply (eval i m) m) e ∙ ap (λ d. apply d (replayed earlier)) d

    pub after-fine : (xs : List ℕ) → IsPlaced count Dependency xs → IsFine (after xs)
    after-fine xs p = subst (λ m. IsFine m) (sym (after-is_replayed xs p)) (replayed-fine xs)

    pub eval-after : (i : ℕ) (earlier : List ℕ) → IsPlaced count Dependency (i ∷ earlier) → eval i (after earlier) ≡ did i
    eval-after i earlier p = ap (eval i) (after-is_replayed earlier p.1) ∙ run.by_looks i (replayed earlier) p.0.0 (replayed-fine earlier) (looks_agree i earlier p)

    -- and with all of them the last state is the same at each cell
    pub after-is_state : (xs : List ℕ) → IsPlaced count Dependency xs → ((j : ℕ) → IsUpTo count j → IsMember j xs) → (c : C) → at (after xs) c ≡ at (state count) c
    after-is_state xs p all c = ap (λ m. at m c) (after-is_replayed xs p) ∙ leaves_same (λ j. IsMember j xs) (UpTo count) c _ _ (λ j w m. up_to-placed count Dependency xs j p m) (λ j w t. all j t) (replayed_leaves xs c p) (state_leaves count c (omega arith))
