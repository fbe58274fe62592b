-- Steps of gathering the triples that close a dangerous structure.
use Rattle.std.proofs.Common.{◌≡◌, ◌↔◌, ℕ, ◌+◌, ◌<◌, ◌≤◌, ◌⊎◌, inl, inr, List, [], ◌∷◌, ◌++◌, length, get_or, take, Contains, sym, subst, ap, ◌∙◌, arith}
use Rattle.std.proofs.lemmas.Bool.{cases_eq}
use Rattle.std.proofs.lemmas.List.{take_more, take_all}
use Rattle.std.proofs.lemmas.List.Elements.{Contains-append_left, Contains-push, Contains-push_cases}
use Rattle.prog_check.specs.declared.path.Path.{Path}
use Rattle.repair_laws.specs.declared.plan.Pair.{Pair}
use Rattle.repair_laws.specs.Closing.{Closes, pair_from}
use Rattle.si_repair.specs.declared.plans.closing.ProgramTriple.{ProgramTriple}
use Rattle.si_repair.specs.Planning.{ClosesTriple, ClosesBehind, ClosesFrom, AddsTriples, LacksPair, AreWithout}

adds-same : (old new : List ProgramTriple) (P Q : ProgramTriple → Type 0) → ((t : ProgramTriple) → P t → Q t) → ((t : ProgramTriple) → Q t → P t) → AddsTriples old new P → AddsTriples old new Q
adds-same old new P Q to from adds t = (λ c. forth ((adds t).0 c), λ h. (adds t).1 (back h))
  where
    forth : Contains old t ⊎ P t → Contains old t ⊎ Q t
    forth (inl c) = inl c
    forth (inr h) = inr (to t h)

    back : Contains old t ⊎ Q t → Contains old t ⊎ P t
    back (inl c) = inl c
    back (inr h) = inr (from t h)

adds-pushed : (old new : List ProgramTriple) (P : ProgramTriple → Type 0) (u : ProgramTriple) → AddsTriples old new P → AddsTriples old (new ++ u ∷ []) (λ t. P t ⊎ (u ≡ t))
adds-pushed old new P u adds t = (λ c. to (Contains-push_cases new u t c), λ h. from h)
  where
    to : Contains new t ⊎ (u ≡ t) → Contains old t ⊎ (P t ⊎ (u ≡ t))
    to (inl c) = forth ((adds t).0 c)
      where
        forth : Contains old t ⊎ P t → Contains old t ⊎ (P t ⊎ (u ≡ t))
        forth (inl h) = inl h
        forth (inr h) = inr (inl h)
    to (inr e) = inr (inr e)

    from : Contains old t ⊎ (P t ⊎ (u ≡ t)) → Contains (new ++ u ∷ []) t
    from (inl c) = Contains-append_left new (u ∷ []) t ((adds t).1 (inl c))
    from (inr (inl h)) = Contains-append_left new (u ∷ []) t ((adds t).1 (inr h))
    from (inr (inr e)) = subst (λ (v : ProgramTriple). Contains (new ++ u ∷ []) v) e (Contains-push new u)

adds-then : (old mid new : List ProgramTriple) (P Q : ProgramTriple → Type 0) → AddsTriples old mid P → AddsTriples mid new Q → AddsTriples old new (λ t. P t ⊎ Q t)
adds-then old mid new P Q first second t = (λ c. to ((second t).0 c), λ h. from h)
  where
    to : Contains mid t ⊎ Q t → Contains old t ⊎ (P t ⊎ Q t)
    to (inl c) = forth ((first t).0 c)
      where
        forth : Contains old t ⊎ P t → Contains old t ⊎ (P t ⊎ Q t)
        forth (inl h) = inl h
        forth (inr h) = inr (inl h)
    to (inr h) = inr (inr h)

    from : Contains old t ⊎ (P t ⊎ Q t) → Contains new t
    from (inl c) = (second t).1 (inl ((first t).1 (inl c)))
    from (inr (inl h)) = (second t).1 (inl ((first t).1 (inr h)))
    from (inr (inr h)) = (second t).1 (inr h)

-- ---- triples without a pair

module _ (xs : List ProgramTriple) (i : ℕ) (d : ProgramTriple) (inside : i < length xs) (pair : Pair) (rest : List ProgramTriple) (are : AreWithout (take i xs) pair rest) where
  pub without-kept : LacksPair pair (get_or xs i d) → AreWithout (take (i + 1) xs) pair (rest ++ get_or xs i d ∷ [])
  without-kept lacks = subst (λ (ys : List ProgramTriple). AreWithout ys pair (rest ++ u ∷ [])) (sym (take_more xs i d inside)) (λ t. (λ c. to t (Contains-push_cases rest u t c), λ h. from t h.1 (Contains-push_cases (take i xs) u t h.0)))
    where
      u : ProgramTriple
      u = get_or xs i d

      to : (t : ProgramTriple) → Contains rest t ⊎ (u ≡ t) → Contains (take i xs ++ u ∷ []) t × LacksPair pair t
      to t (inl c) = let h = (are t).0 c in (Contains-append_left (take i xs) (u ∷ []) t h.0, h.1)
      to t (inr e) = subst (λ (v : ProgramTriple). Contains (take i xs ++ u ∷ []) v × LacksPair pair v) e (Contains-push (take i xs) u, lacks)

      from : (t : ProgramTriple) → LacksPair pair t → Contains (take i xs) t ⊎ (u ≡ t) → Contains (rest ++ u ∷ []) t
      from t l (inl c) = Contains-append_left rest (u ∷ []) t ((are t).1 (c, l))
      from t l (inr e) = subst (λ (v : ProgramTriple). Contains (rest ++ u ∷ []) v) e (Contains-push rest u)

  pub without-dropped : (LacksPair pair (get_or xs i d) → ⊥) → AreWithout (take (i + 1) xs) pair rest
  without-dropped has = subst (λ (ys : List ProgramTriple). AreWithout ys pair rest) (sym (take_more xs i d inside)) (λ t. (λ c. to t ((are t).0 c), λ h. from t h.1 (Contains-push_cases (take i xs) u t h.0)))
    where
      u : ProgramTriple
      u = get_or xs i d

      to : (t : ProgramTriple) → Contains (take i xs) t × LacksPair pair t → Contains (take i xs ++ u ∷ []) t × LacksPair pair t
      to t (c, l) = (Contains-append_left (take i xs) (u ∷ []) t c, l)

      from : (t : ProgramTriple) → LacksPair pair t → Contains (take i xs) t ⊎ (u ≡ t) → Contains rest t
      from t l (inl c) = (are t).1 (c, l)
      from t l (inr e) = absurd (has (subst (λ (v : ProgramTriple). LacksPair pair v) (sym e) l))

pub without-all : (xs : List ProgramTriple) (pair : Pair) (rest : List ProgramTriple) (n : ℕ) → length xs ≤ n → AreWithout (take n xs) pair rest → AreWithout xs pair rest
without-all xs pair rest n past are = subst (λ (ys : List ProgramTriple). AreWithout ys pair rest) (take_all n xs past) are

same_triple : (t u : ProgramTriple) → t.first ≡ u.first → t.second ≡ u.second → t.third ≡ u.third → t ≡ u
same_triple t u a b c = λ i. record { first = a i; second = b i; third = c i }

module _ (nodes : List Path) where
  -- ---- behind a pair

  module _ (pair : Pair) where
    module _ (third : ℕ) (old new : List ProgramTriple) (adds : AddsTriples old new (ClosesBehind nodes pair third)) where
      pub behind-pushed : (u : ProgramTriple) → u.first ≡ pair.from → u.second ≡ pair.to → u.third ≡ third → Closes nodes pair.from pair.to third → AddsTriples old (new ++ u ∷ []) (ClosesBehind nodes pair (third + 1))
      behind-pushed u a b c closes =
          adds-same old (new ++ u ∷ []) (λ t. ClosesBehind nodes pair third t ⊎ (u ≡ t)) (ClosesBehind nodes pair (third + 1)) to (λ t h. from t (cases_eq t.third third) h)
          (adds-pushed old new (ClosesBehind nodes pair third) u adds)
        where
          own : ClosesBehind nodes pair (third + 1) u
          own = (λ i. record { from = a i; to = b i }, omega (arith, c), rw (a, b, c) closes)

          to : (t : ProgramTriple) → ClosesBehind nodes pair third t ⊎ (u ≡ t) → ClosesBehind nodes pair (third + 1) t
          to t (inl h) = let l = h.1 in (h.0, omega (arith, l), h.2)
          to t (inr e) = subst (λ (v : ProgramTriple). ClosesBehind nodes pair (third + 1) v) e own

          from : (t : ProgramTriple) → (t.third ≡ third) ⊎ (t.third ≡ third → ⊥) → ClosesBehind nodes pair (third + 1) t → ClosesBehind nodes pair third t ⊎ (u ≡ t)
          from t (inl e) h = inr (same_triple u t (a ∙ ap (λ (p : Pair). p.from) (sym h.0)) (b ∙ ap (λ (p : Pair). p.to) (sym h.0)) (c ∙ sym e))
          from t (inr n) h = let l = h.1 in let k : t.third < third = omega (arith, l, n) in inl (h.0, k, h.2)

      pub behind-passed : (Closes nodes pair.from pair.to third → ⊥) → AddsTriples old new (ClosesBehind nodes pair (third + 1))
      behind-passed not =
          adds-same old new (ClosesBehind nodes pair third) (ClosesBehind nodes pair (third + 1)) (λ t h. let l = h.1 in (h.0, omega (arith, l), h.2)) (λ t h. from t (cases_eq t.third third) h)
          adds
        where
          from : (t : ProgramTriple) → (t.third ≡ third) ⊎ (t.third ≡ third → ⊥) → ClosesBehind nodes pair (third + 1) t → ClosesBehind nodes pair third t
          from t (inl e) h = absurd (not (subst (λ n. Closes nodes pair.from pair.to n) e (subst (λ (p : Pair). Closes nodes p.from p.to t.third) h.0 h.2)))
          from t (inr n) h = let l = h.1 in let k : t.third < third = omega (arith, l, n) in (h.0, k, h.2)

  -- ---- from a program

  module _ (programs : ℕ) where
    pub from-more : (first second : ℕ) (old mid new : List ProgramTriple) → AddsTriples old mid (ClosesFrom nodes first second programs) → AddsTriples mid new (ClosesBehind nodes (pair_from first second) programs) → AddsTriples old new (ClosesFrom nodes first (second + 1) programs)
    from-more first second old mid new adds more =
        adds-same old new (λ t. ClosesFrom nodes first second programs t ⊎ ClosesBehind nodes (pair_from first second) programs t) (ClosesFrom nodes first (second + 1) programs) to (λ t h. from t (cases_eq t.second second) h)
        (adds-then old mid new (ClosesFrom nodes first second programs) (ClosesBehind nodes (pair_from first second) programs) adds more)
      where
        to : (t : ProgramTriple) → ClosesFrom nodes first second programs t ⊎ ClosesBehind nodes (pair_from first second) programs t → ClosesFrom nodes first (second + 1) programs t
        to t (inl h) = let l = h.1 in (h.0, omega (arith, l), h.2, h.3)
        to t (inr h) = let e : t.second ≡ second = ap (λ (p : Pair). p.to) h.0 in (ap (λ (p : Pair). p.from) h.0, omega (arith, e), h.1, h.2)

        from : (t : ProgramTriple) → (t.second ≡ second) ⊎ (t.second ≡ second → ⊥) → ClosesFrom nodes first (second + 1) programs t → ClosesFrom nodes first second programs t ⊎ ClosesBehind nodes (pair_from first second) programs t
        from t (inl e) h = inr (λ i. record { from = h.0 i; to = e i }, h.2, h.3)
        from t (inr n) h = let l = h.1 in let k : t.second < second = omega (arith, l, n) in inl (h.0, k, h.2, h.3)

    -- ---- all

    -- the triples that close a structure and begin with a program below a bound
    abbrev pub AreClosingBelow : ℕ → List ProgramTriple → Type 0
    AreClosingBelow first triples =
        (t : ProgramTriple)
        → Contains triples t ↔ ((t.first < first) × (t.second < programs) × (t.third < programs) × ClosesTriple nodes t)

    pub all-more : (first : ℕ) (old new : List ProgramTriple) → AreClosingBelow first old → AddsTriples old new (ClosesFrom nodes first programs programs) → AreClosingBelow (first + 1) new
    all-more first old new are more t = (λ c. to ((more t).0 c), λ h. (more t).1 (from (cases_eq t.first first) h))
      where
        to : Contains old t ⊎ ClosesFrom nodes first programs programs t → (t.first < first + 1) × (t.second < programs) × (t.third < programs) × ClosesTriple nodes t
        to (inl c) = let h = (are t).0 c in let l = h.0 in (omega (arith, l), h.1, h.2, h.3)
        to (inr h) = let e = h.0 in (omega (arith, e), h.1, h.2, h.3)

        from : (t.first ≡ first) ⊎ (t.first ≡ first → ⊥) → (t.first < first + 1) × (t.second < programs) × (t.third < programs) × ClosesTriple nodes t → Contains old t ⊎ ClosesFrom nodes first programs programs t
        from (inl e) h = inr (e, h.1, h.2, h.3)
        from (inr n) h = let l = h.0 in let k : t.first < first = omega (arith, l, n) in inl ((are t).1 (k, h.1, h.2, h.3))
