-- Pairs of parameters in order, and which of them exposed questions force equal.
use Rattle.std.proofs.Common.{◌≡◌, ℕ, zero, suc, ◌+◌, ◌<◌, ◌≤◌, ◌⊎◌, inl, inr, List, [], ◌∷◌, ◌++◌, length, take, drop, get_or, refl, sym, subst, ap, ◌∙◌, arith, Contains}
use Rattle.std.specs.Prelude.{slice_get, All}
use Rattle.std.proofs.lemmas.List.{take_more, take_all, take-append-drop, append_assoc}
use Rattle.std.proofs.lemmas.List.Elements.{Contains-append_left, Contains-append_right, Contains-append_cases, Contains-push, Contains-push_cases, Contains-get_or, All-contains}
use Rattle.std.proofs.lemmas.Option.{slice_get_within, get_or_from_slice_get}
use Rattle.order_facts.specs.declared.steps.Fact.{Fact}
use Rattle.prog_check.specs.declared.path.Term.TheVariants.{Param}
use Rattle.prog_check.specs.declared.path.Access.{Access}
use Rattle.prog_check.specs.declared.path.Path.{Path}
use Rattle.prog_paths.specs.Meeting.{IsSingle}
use Rattle.prog_paths.specs.StaticGraph.{QuestionNumbers, AsksOf}
use Rattle.prog_paths.specs.Facts.{AreEqualWhereTheyMeet}
use Rattle.prog_paths.specs.declared.accesses.places.Placed.{Placed}
use Rattle.prog_paths.specs.declared.accesses.questions.Question.{Question}
use Rattle.prog_paths.specs.Questions.{numbers_of, question_between, ChangesSingleCells}
use Rattle.prog_paths.specs.Places.{IsAt}
use Rattle.prog_paths.proofs.Facts.{law_of_equal_terms}
use Rattle.prog_paths.proofs.Shown.{single_at, may_touch-second}
use Rattle.prog_paths.proofs.Marked.{same_access}
use Rattle.prog_paths.proofs.Rising.{rises-append, rises-push, rises-left, rises-across}
use Rattle.repair_laws.specs.declared.plan.Pair.{Pair}
use Rattle.repair_laws.specs.Keys.{ExposedOf, IsForcedEqual, IsLeastForced, IsKeyOf}
use Rattle.si_repair.specs.Exposed.{AreExposed, ArePlacesOf, AreExposedAmong}
use Rattle.si_repair.specs.Key.{AreMissed, IsMissed, AreFactsOf, PutEqual, AreLeft, ForceEqual, IsEarlier, ArePairsRising, params_with, all_pairs, AreForced}
use Rattle.si_repair.proofs.Exposed.{among_first, still_first, last_first, first_moved, of_pair-exposed, AreExposed-from_places}
use Rattle.prog_tree.proofs.Elements.{contains_only, contains_itself, contains_nothing}

-- ---- pairs in order

rising-front : (xs : List (ℕ × ℕ)) (x : ℕ × ℕ) → ArePairsRising (xs ++ x ∷ []) → ArePairsRising xs × ((y : ℕ × ℕ) → Contains xs y → IsEarlier y x)
rising-front xs x h = (rises-left IsEarlier xs (x ∷ []) h, λ y c. rises-across IsEarlier xs (x ∷ []) y x h c (contains_itself x))

-- ---- all pairs

by_last : (a b : ℕ) → a < suc b → (a < b) ⊎ (b ≡ a)
by_last zero zero h = inr refl
by_last zero (suc b) h = inl (omega arith)
by_last (suc a) zero h = absurd (omega (arith, h))
by_last (suc a) (suc b) h = next (by_last a b (omega (arith, h)))
  where
    next : (a < b) ⊎ (b ≡ a) → (suc a < suc b) ⊎ (suc b ≡ suc a)
    next (inl k) = inl (omega (arith, k))
    next (inr k) = inr (ap suc k)

of_pairs : (i n : ℕ) (p : ℕ × ℕ) → Contains (params_with i n) p → (p.0 ≡ i) × (p.1 < n)
of_pairs i zero p c = absurd (contains_nothing p c)
of_pairs i (suc n) p c = go (Contains-push_cases (params_with i n) (i, n) p c) (λ k. of_pairs i n p k)
  where
    go : Contains (params_with i n) p ⊎ ((i, n) ≡ p) → (Contains (params_with i n) p → (p.0 ≡ i) × (p.1 < n)) → (p.0 ≡ i) × (p.1 < suc n)
    go (inl k) rest = let r = rest k in let less = r.1 in (r.0, omega (arith, less))
    go (inr e) rest = let second = ap (λ (q : ℕ × ℕ). q.1) e in (ap (λ (q : ℕ × ℕ). q.0) (sym e), omega (arith, second))

in_pairs : (i n j : ℕ) → j < n → Contains (params_with i n) (i, j)
in_pairs i zero j lt = absurd (omega (arith, lt))
in_pairs i (suc n) j lt = go (by_last j n lt) (λ k. in_pairs i n j k)
  where
    go : (j < n) ⊎ (n ≡ j) → (j < n → Contains (params_with i n) (i, j)) → Contains (params_with i n ++ (i, n) ∷ []) (i, j)
    go (inl k) rest = Contains-append_left (params_with i n) ((i, n) ∷ []) (i, j) (rest k)
    go (inr k) rest = subst (λ (m : ℕ). Contains (params_with i n ++ (i, n) ∷ []) (i, m)) k (Contains-push (params_with i n) (i, n))

of_all : (m n : ℕ) (p : ℕ × ℕ) → Contains (all_pairs m n) p → (p.0 < m) × (p.1 < n)
of_all zero n p c = absurd (contains_nothing p c)
of_all (suc m) n p c = go (Contains-append_cases (all_pairs m n) (params_with m n) p c) (λ k. of_all m n p k)
  where
    go : Contains (all_pairs m n) p ⊎ Contains (params_with m n) p → (Contains (all_pairs m n) p → (p.0 < m) × (p.1 < n)) → (p.0 < suc m) × (p.1 < n)
    go (inl k) rest = let r = rest k in let less = r.0 in (omega (arith, less), r.1)
    go (inr k) rest = let r = of_pairs m n p k in let same = r.0 in (omega (arith, same), r.1)

in_all : (m n i j : ℕ) → i < m → j < n → Contains (all_pairs m n) (i, j)
in_all zero n i j lt k = absurd (omega (arith, lt))
in_all (suc m) n i j lt k = go (by_last i m lt) (λ h. in_all m n i j h k)
  where
    go : (i < m) ⊎ (m ≡ i) → (i < m → Contains (all_pairs m n) (i, j)) → Contains (all_pairs m n ++ params_with m n) (i, j)
    go (inl h) rest = Contains-append_left (all_pairs m n) (params_with m n) (i, j) (rest h)
    go (inr h) rest = subst (λ (l : ℕ). Contains (all_pairs m n ++ params_with m n) (l, j)) h (Contains-append_right (all_pairs m n) (params_with m n) (m, j) (in_pairs m n j k))

pairs_rise : (i n : ℕ) → ArePairsRising (params_with i n)
pairs_rise i zero = tt
pairs_rise i (suc n) = rises-push IsEarlier (params_with i n) (i, n) (pairs_rise i n) (λ y c. let o = of_pairs i n y c in inr (o.0, o.1))

all_rise : (m n : ℕ) → ArePairsRising (all_pairs m n)
all_rise zero n = tt
all_rise (suc m) n = rises-append IsEarlier (all_pairs m n) (params_with m n) (all_rise m n) (pairs_rise m n) before
  where
    before : (x y : ℕ × ℕ) → Contains (all_pairs m n) x → Contains (params_with m n) y → IsEarlier x y
    before x y i j =
        let less = (of_all m n x i).0 in
        let same = (of_pairs m n y j).0 in
        inl (omega (arith, less, same))

-- ---- what facts leave

module _ (facts : List Fact) where
  pub AreLeft-none : (pairs : List (ℕ × ℕ)) → AreLeft facts (take 0 pairs) []
  AreLeft-none pairs = record { only = λ p c. absurd (contains_nothing p c); each = λ p c e. absurd (contains_nothing p c); rise = λ h. tt }

  pub AreLeft-all : (pairs left : List (ℕ × ℕ)) (n : ℕ) → length pairs ≤ n → AreLeft facts (take n pairs) left → AreLeft facts pairs left
  AreLeft-all pairs left n le h = subst (λ (l : List (ℕ × ℕ)). AreLeft facts l left) (take_all n pairs le) h

  module _ (pairs left : List (ℕ × ℕ)) (n : ℕ) (d : ℕ × ℕ) (lt : n < length pairs) (h : AreLeft facts (take n pairs) left) where
    front : ArePairsRising (take (n + 1) pairs) → ArePairsRising (take n pairs) × ((y : ℕ × ℕ) → Contains (take n pairs) y → IsEarlier y (get_or pairs n d))
    front k = rising-front (take n pairs) (get_or pairs n d) (subst ArePairsRising (take_more pairs n d lt) k)

    pub AreLeft-kept : (more : List (ℕ × ℕ)) → PutEqual facts (get_or pairs n d) → more ≡ left ++ get_or pairs n d ∷ [] → AreLeft facts (take (n + 1) pairs) more
    AreLeft-kept more e added = subst (λ (l : List (ℕ × ℕ)). AreLeft facts (take (n + 1) pairs) l) (sym added) (record { only = only; each = each; rise = rise })
      where
        only : (p : ℕ × ℕ) → Contains (left ++ get_or pairs n d ∷ []) p → Contains (take (n + 1) pairs) p × PutEqual facts p
        only p c = go (Contains-push_cases left (get_or pairs n d) p c)
          where
            go : Contains left p ⊎ (get_or pairs n d ≡ p) → Contains (take (n + 1) pairs) p × PutEqual facts p
            go (inl k) = let o = h.only p k in (still_first n pairs d p lt o.0, o.1)
            go (inr k) = subst (λ (q : ℕ × ℕ). Contains (take (n + 1) pairs) q × PutEqual facts q) k (last_first n pairs d lt, e)

        each : (p : ℕ × ℕ) → Contains (take (n + 1) pairs) p → PutEqual facts p → Contains (left ++ get_or pairs n d ∷ []) p
        each p c put = go (among_first n pairs d p lt c)
          where
            go : Contains (take n pairs) p ⊎ (get_or pairs n d ≡ p) → Contains (left ++ get_or pairs n d ∷ []) p
            go (inl k) = Contains-append_left left (get_or pairs n d ∷ []) p (h.each p k put)
            go (inr k) = subst (λ (q : ℕ × ℕ). Contains (left ++ get_or pairs n d ∷ []) q) k (Contains-push left (get_or pairs n d))

        rise : ArePairsRising (take (n + 1) pairs) → ArePairsRising (left ++ get_or pairs n d ∷ [])
        rise k = let f = front k in rises-push IsEarlier left (get_or pairs n d) (h.rise f.0) (λ y c. f.1 y (h.only y c).0)

    pub AreLeft-dropped : (more : List (ℕ × ℕ)) → (PutEqual facts (get_or pairs n d) → ⊥) → more ≡ left → AreLeft facts (take (n + 1) pairs) more
    AreLeft-dropped more no_put is = subst (λ (l : List (ℕ × ℕ)). AreLeft facts (take (n + 1) pairs) l) (sym is) (record { only = λ p c. let o = h.only p c in (still_first n pairs d p lt o.0, o.1); each = each; rise = λ k. h.rise (front k).0 })
      where
        each : (p : ℕ × ℕ) → Contains (take (n + 1) pairs) p → PutEqual facts p → Contains left p
        each p c put = go (among_first n pairs d p lt c)
          where
            go : Contains (take n pairs) p ⊎ (get_or pairs n d ≡ p) → Contains left p
            go (inl k) = h.each p k put
            go (inr k) = absurd (no_put (subst (λ (q : ℕ × ℕ). PutEqual facts q) (sym k) put))

-- ---- what a question forces

single_theirs : (nodes : List Path) (q : Question) (mine theirs : Access) → All ChangesSingleCells nodes → AreMissed nodes q mine theirs → IsSingle theirs
single_theirs nodes q mine theirs all h =
    let at = h.asked.at_theirs in
    let inside = slice_get_within nodes q.y at.0 at.1 in
    single_at at.0 q.b theirs (subst ChangesSingleCells (get_or_from_slice_get nodes q.y at.0 at.0 at.1) (all q.y at.0 inside)) at.2
    (may_touch-second (numbers_of q) mine theirs (inl h.kinds))

-- one question makes two parameters equal wherever it meets
abbrev ForcesEqual : List Path → Question → ℕ → ℕ → Type 0
ForcesEqual nodes q i j = (mine theirs : Access) → AreMissed nodes q mine theirs → AreEqualWhereTheyMeet mine theirs (Param i) (Param j)

forces-put : (nodes : List Path) (q : Question) (facts : List Fact) (i j : ℕ) → All ChangesSingleCells nodes → AreFactsOf nodes q facts → PutEqual facts (i, j) → ForcesEqual nodes q i j
forces-put nodes q facts i j all is put mine theirs h =
    (law_of_equal_terms mine theirs h.asked.table (single_theirs nodes q mine theirs all h) (Param i) (Param j)).0
    (subst (λ (fs : List Fact). PutEqual fs (i, j)) (is mine theirs h.asked) put)

put-forces : (nodes : List Path) (q : Question) (facts : List Fact) (i j : ℕ) → All ChangesSingleCells nodes → AreFactsOf nodes q facts → IsMissed nodes q → ForcesEqual nodes q i j → PutEqual facts (i, j)
put-forces nodes q facts i j all is missed f =
    let mine = missed.0 in
    let theirs = missed.1 in
    let h = missed.2 in
    subst (λ (fs : List Fact). PutEqual fs (i, j)) (sym (is mine theirs h.asked))
    ((law_of_equal_terms mine theirs h.asked.table (single_theirs nodes q mine theirs all h) (Param i) (Param j)).1 (f mine theirs h))

module _ (nodes : List Path) (firsts seconds : ℕ) where
  pub AreForced-none : (pairs : List (ℕ × ℕ)) → pairs ≡ all_pairs firsts seconds → AreForced nodes [] firsts seconds pairs
  AreForced-none pairs is = subst (λ (l : List (ℕ × ℕ)). AreForced nodes [] firsts seconds l) (sym is) (record {
    only = λ i j c. let o = of_all firsts seconds (i, j) c in (o.0, o.1, λ q k. absurd (contains_nothing q k));
    each = λ i j a b f. in_all firsts seconds i j a b;
    rise = all_rise firsts seconds;
  })

  -- one more question
  AreForced-push : (qs : List Question) (next : Question) (facts : List Fact) (old new : List (ℕ × ℕ)) → All ChangesSingleCells nodes → IsMissed nodes next → AreFactsOf nodes next facts → AreLeft facts old new → AreForced nodes qs firsts seconds old → AreForced nodes (qs ++ next ∷ []) firsts seconds new
  AreForced-push qs next facts old new all missed is left h = record { only = only; each = each; rise = left.rise h.rise }
    where
      only : (i j : ℕ) → Contains new (i, j) → (i < firsts) × (j < seconds) × ForceEqual nodes (qs ++ next ∷ []) i j
      only i j c =
          let l = left.only (i, j) c in
          let o = h.only i j l.0 in
          (o.0, o.1, λ q k. go q l.1 o.2 (Contains-push_cases qs next q k))
        where
          go : (q : Question) → PutEqual facts (i, j) → ForceEqual nodes qs i j → Contains qs q ⊎ (next ≡ q) → ForcesEqual nodes q i j
          go q put before (inl k) = before q k
          go q put before (inr k) = subst (λ (r : Question). ForcesEqual nodes r i j) k (forces-put nodes next facts i j all is put)

      each : (i j : ℕ) → i < firsts → j < seconds → ForceEqual nodes (qs ++ next ∷ []) i j → Contains new (i, j)
      each i j a b f =
          left.each (i, j) (h.each i j a b (λ q k. f q (Contains-append_left qs (next ∷ []) q k)))
          (put-forces nodes next facts i j all is missed (f next (Contains-push qs next)))

  pub AreForced-more : (earlier qs : List Question) (n : ℕ) (d : Question) (facts : List Fact) (old new : List (ℕ × ℕ)) → n < length qs → All ChangesSingleCells nodes → IsMissed nodes (get_or qs n d) → AreFactsOf nodes (get_or qs n d) facts → AreLeft facts old new → AreForced nodes (earlier ++ take n qs) firsts seconds old → AreForced nodes (earlier ++ take (n + 1) qs) firsts seconds new
  AreForced-more earlier qs n d facts old new lt all missed is left h =
      subst (λ (l : List Question). AreForced nodes l firsts seconds new)
      (append_assoc earlier (take n qs) (get_or qs n d ∷ []) ∙ ap (λ (l : List Question). earlier ++ l) (sym (take_more qs n d lt)))
      (AreForced-push (earlier ++ take n qs) (get_or qs n d) facts old new all missed is left h)

-- ---- the key

moved : (nodes : List Path) (pair : Pair) (e : ExposedOf nodes pair) (q : Question) → e.question.question ≡ numbers_of q → AreMissed nodes q e.question.mine e.question.theirs
moved nodes pair e q is = record { asked = subst (λ (r : QuestionNumbers). AsksOf nodes r e.question.mine e.question.theirs) is e.question.asked; kinds = e.question.kinds }

-- what one access may miss of others is missed
pub missed_by : (nodes : List Path) (first : Placed) (seconds : List Placed) (qs : List Question) → IsAt nodes first → All (λ (p : Placed). IsAt nodes p) seconds → AreExposedAmong nodes (first ∷ []) seconds qs → All (λ (q : Question). IsMissed nodes q) qs
missed_by nodes first seconds qs at all h k d lt =
    let b = h.only (get_or qs k d) (Contains-get_or qs k d lt) in
    let at_first = subst (λ (p : Placed). IsAt nodes p) (contains_only first b.first b.in_firsts) at in
    let at_second = All-contains (λ (p : Placed). IsAt nodes p) seconds b.second all b.in_seconds in
    let missed : AreMissed nodes (question_between b.first b.second) b.first.access b.second.access = record { asked = record { at_mine = at_first; at_theirs = at_second; table = b.exposed.misses.table }; kinds = b.exposed.misses.kinds } in
    (b.first.access, b.second.access, subst (λ (q : Question). AreMissed nodes q b.first.access b.second.access) (sym b.is) missed)

-- what the pair forces equal, each list of some of its exposed questions does
by-forced : (nodes : List Path) (pair : Pair) (qs : List Question) → ((q : Question) → Contains qs q → (e : ExposedOf nodes pair) × (e.question.question ≡ numbers_of q)) → (i j : ℕ) → IsForcedEqual nodes pair i j → ForceEqual nodes qs i j
by-forced nodes pair qs only i j f q c mine theirs h =
    let o = only q c in
    let e = o.0 in
    let own = moved nodes pair e q o.1 in
    let same_mine = same_access nodes q.x q.a e.question.mine mine own.asked.at_mine h.asked.at_mine in
    let same_theirs = same_access nodes q.y q.b e.question.theirs theirs own.asked.at_theirs h.asked.at_theirs in
    subst (λ (t : Access). AreEqualWhereTheyMeet mine t (Param i) (Param j)) same_theirs
    (subst (λ (m : Access). AreEqualWhereTheyMeet m e.question.theirs (Param i) (Param j)) same_mine (f e))

module _ (nodes : List Path) (pair : Pair) (qs : List Question) (exposed : AreExposed nodes pair qs) where
  forced-by : (i j : ℕ) → ForceEqual nodes qs i j → IsForcedEqual nodes pair i j
  forced-by i j f e = let q = exposed.each e in f q.0 q.1 e.question.mine e.question.theirs (moved nodes pair e q.0 q.2)

  least-of : (firsts seconds : ℕ) (p : ℕ × ℕ) (rest : List (ℕ × ℕ)) → AreForced nodes qs firsts seconds (p ∷ rest) → IsLeastForced nodes pair firsts seconds p.0 p.1
  least-of firsts seconds p rest h =
      let here : Contains (p ∷ rest) p = (0, omega arith, refl) in
      let own = h.only p.0 p.1 here in
      record { first_inside = own.0; second_inside = own.1; forced = forced-by p.0 p.1 own.2; least = least }
    where
      least : (k l : ℕ) → k < firsts → l < seconds → IsForcedEqual nodes pair k l → (p.0 < k) ⊎ ((p.0 ≡ k) × (p.1 ≤ l))
      least k l a b f = go (Contains-append_cases (p ∷ []) rest (k, l) (h.each k l a b (by-forced nodes pair qs exposed.only k l f)))
        where
          same : Contains {X = ℕ × ℕ} [] (k, l) ⊎ (p ≡ (k, l)) → (p.0 < k) ⊎ ((p.0 ≡ k) × (p.1 ≤ l))
          same (inl n) = absurd (contains_nothing (k, l) n)
          same (inr e) = let second = ap (λ (q : ℕ × ℕ). q.1) e in inr (ap (λ (q : ℕ × ℕ). q.0) e, omega (arith, second))

          earlier : IsEarlier p (k, l) → (p.0 < k) ⊎ ((p.0 ≡ k) × (p.1 ≤ l))
          earlier (inl less) = inl less
          earlier (inr both) = let less = both.1 in inr (both.0, omega (arith, less))

          go : Contains (p ∷ []) (k, l) ⊎ Contains rest (k, l) → (p.0 < k) ⊎ ((p.0 ≡ k) × (p.1 ≤ l))
          go (inl c) = same (Contains-push_cases [] p (k, l) c)
          go (inr c) = earlier (All-contains (IsEarlier p) rest (k, l) h.rise.0 c)

  IsKeyOf-first : (firsts seconds : ℕ) (pairs : List (ℕ × ℕ)) → AreForced nodes qs firsts seconds pairs → IsKeyOf nodes pair firsts seconds (slice_get pairs 0)
  IsKeyOf-first firsts seconds [] h = λ i j a b f. contains_nothing (i, j) (h.each i j a b (by-forced nodes pair qs exposed.only i j f))
  IsKeyOf-first firsts seconds (p ∷ rest) h = least-of firsts seconds p rest h

-- The pairs of parameters that the exposed questions of some accesses to others force equal; or none, where those of the
-- first few of these accesses force none.
pub record AreForcedAmong (nodes : List Path) (reads changes : List Placed) (firsts seconds : ℕ)
    (pairs : List (ℕ × ℕ)) : Type 0 where
  pub asked : ℕ
  pub questions : List Question
  pub exposed : AreExposedAmong nodes (take asked reads) changes questions
  pub forced : AreForced nodes questions firsts seconds pairs
  pub all : (length reads ≤ asked) ⊎ (pairs ≡ [])

module _ (nodes : List Path) (pair : Pair) (xs ys : List Placed) (reads : ArePlacesOf nodes pair.from xs) (changes : ArePlacesOf nodes pair.to ys) where
  pub IsKeyOf-among : (firsts seconds : ℕ) (pairs : List (ℕ × ℕ)) → AreForcedAmong nodes xs ys firsts seconds pairs → IsKeyOf nodes pair firsts seconds (slice_get pairs 0)
  IsKeyOf-among firsts seconds pairs h = go h.all
    where
      among_all : (x : Placed) → Contains (take h.asked xs) x → Contains xs x
      among_all x c = subst (λ (l : List Placed). Contains l x) (take-append-drop h.asked xs) (Contains-append_left (take h.asked xs) (drop h.asked xs) x c)

      only : (q : Question) → Contains h.questions q → (e : ExposedOf nodes pair) × (e.question.question ≡ numbers_of q)
      only q c = of_pair-exposed nodes pair xs ys reads changes q (first_moved nodes (take h.asked xs) xs ys q among_all (h.exposed.only q c))

      go : (length xs ≤ h.asked) ⊎ (pairs ≡ []) → IsKeyOf nodes pair firsts seconds (slice_get pairs 0)
      go (inl all) =
          let exposed = subst (λ (l : List Placed). AreExposedAmong nodes l ys h.questions) (take_all h.asked xs all) h.exposed in
          IsKeyOf-first nodes pair h.questions (AreExposed-from_places nodes pair xs ys reads changes h.questions exposed) firsts seconds pairs h.forced
      go (inr none) =
          subst (λ (l : List (ℕ × ℕ)). IsKeyOf nodes pair firsts seconds (slice_get l 0)) (sym none)
          (λ i j a b f. contains_nothing (i, j) (subst (λ (l : List (ℕ × ℕ)). Contains l (i, j)) none (h.forced.each i j a b (by-forced nodes pair h.questions only i j f))))
