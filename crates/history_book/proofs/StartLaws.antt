-- The starts of active instances, and the least start among them.
use Rattle.std.proofs.Common.{◌≡◌, ℕ, ◌<◌, ◌≤◌, ◌==◌, ◌&&◌, ◌⊎◌, inl, inr, Bool, true, false, cond, nat_lt, max, if◌then◌else◌, List, [], ◌∷◌, length, refl, ap, sym, ◌∙◌, subst, true≢false, arith}
use Rattle.std.specs.Prelude.{All, min, Option, Some, None, IsSome, IsTrue, is_some, slice_get}
use Rattle.std.specs.BTreeMap.{is_at}
use Rattle.std.specs.BTreeSet.{BTreeSet, contains, IsLowerBound}
use Rattle.std.specs.Cmp.{Equal-is, nat_cmp_is}
use Rattle.std.specs.FinMap.{nat_cmp-IsAntisymmetric}
use Rattle.std.specs.List.{AllByRecursion, list_any}
use Rattle.std.specs.List.Sorted.{IsStrictlySortedBy}
use Rattle.std.specs.Map.{keys_of, lookup}
use Rattle.std.specs.Ordering.{nat_cmp, ordering_then, is_eq, is_gt}
use Rattle.std.specs.declared.cmp.Ordering.{Ordering}
use Rattle.std.specs.declared.cmp.Ordering.TheVariants.{Less, Equal, Greater}
use Rattle.std.proofs.lemmas.List.Elements.{All-head, All-tail}
use Rattle.std.proofs.lemmas.Map.Keys.{sorted_head, sorted_tail, le_from_not_gt}
use Rattle.std.proofs.lemmas.Bool.{eq-eqb, eqb-true, ltb-false, ltb-true}
use Rattle.prog_tree.proofs.TableStates.{then_equal}
use Rattle.history_book.specs.ActiveSet.{instance_start_cmp, is_start_of, AreInTurn, IsNoted}
use Rattle.history_book.specs.History.{Instance}
use Rattle.history_book.specs.View.{with_start, least_start}
use Rattle.history_book.specs.declared.instances.active_set.InstanceStart.{InstanceStart}
use Rattle.history_book.proofs.ActiveLaws.{Entry, least-within}

-- ---- the order of starts

-- numbers that compare equal are the same
at_number : (m n : ℕ) → is_at (nat_cmp m) n ≡ true → m ≡ n
at_number m n at = nat_cmp-IsAntisymmetric m n ((Equal-is (nat_cmp m n)).0 at)

pub number_at : (m n : ℕ) → m ≡ n → is_at (nat_cmp m) n ≡ true
number_at m n same = ap is_eq (sym (nat_cmp_is m n Equal same))

pub other_number : (m n : ℕ) → (m ≡ n → ⊥) → is_at (nat_cmp m) n ≡ false
other_number m n apart = go (is_at (nat_cmp m) n) refl
  where
    go : (t : Bool) → is_at (nat_cmp m) n ≡ t → is_at (nat_cmp m) n ≡ false
    go true at = absurd (apart (at_number m n at))
    go false at = at

-- a start that compares equal has the same parts
same_start : (a b : InstanceStart) → is_at (instance_start_cmp a) b ≡ true → (a.start ≡ b.start) × (a.number ≡ b.number)
same_start a b same =
    let parts = then_equal (nat_cmp a.start b.start) (nat_cmp a.number b.number) ((Equal-is (instance_start_cmp a b)).0 same) in
    (nat_cmp-IsAntisymmetric a.start b.start parts.0, nat_cmp-IsAntisymmetric a.number b.number parts.1)

start_same : (a b : InstanceStart) → a.start ≡ b.start → a.number ≡ b.number → is_at (instance_start_cmp a) b ≡ true
start_same a b start number =
    ap (λ o. is_eq (ordering_then o (nat_cmp a.number b.number))) (sym (nat_cmp_is a.start b.start Equal start)) ∙ number_at a.number b.number number

some_at : (start : ℕ) (o : Option Instance) → is_some (with_start start o) ≡ true → is_some o ≡ true
some_at start None h = h
some_at start (Some i) h = refl

not_above : (a b : InstanceStart) → is_gt (instance_start_cmp a b) ≡ false → a.start ≤ b.start
not_above a b low = go (nat_lt b.start a.start) refl
  where
    go : (t : Bool) → nat_lt b.start a.start ≡ t → a.start ≤ b.start
    go false up = omega (arith, ltb-false b.start a.start up)
    go true up =
        let greater : nat_cmp a.start b.start ≡ Greater = sym (nat_cmp_is a.start b.start Greater (ltb-true b.start a.start up)) in
        absurd (true≢false (sym (ap (λ o. is_gt (ordering_then o (nat_cmp a.number b.number))) greater) ∙ low))

-- ---- the start of an active instance

abbrev start_of : Entry → InstanceStart
start_of e = record { start = e.1.start; number = e.0 }

-- no number is below that of the first
none_below : (number : ℕ) (es : List Entry) → AllByRecursion (λ k. nat_cmp number k ≡ Less) (keys_of es) → lookup (is_at (nat_cmp number)) es ≡ None
none_below number [] below = refl
none_below number (e ∷ es) below = ap (λ o. cond (is_eq o) (Some e.1) (lookup (is_at (nat_cmp number)) es)) below.0 ∙ none_below number es below.1

of_first : (e : Entry) (es : List Entry) → is_start_of (e ∷ es) (start_of e) ≡ true
of_first e es =
    ap (λ o. is_some (with_start e.1.start (cond (is_eq o) (Some e.1) (lookup (is_at (nat_cmp e.0)) es)))) (sym (nat_cmp_is e.0 e.0 Equal refl))
    ∙ ap (λ b. is_some (if b then Some e.1 else None)) (eq-eqb e.1.start e.1.start refl)

of_other : (e : Entry) (es : List Entry) (b : InstanceStart) → IsStrictlySortedBy nat_cmp (keys_of (e ∷ es)) → is_start_of es b ≡ true → is_start_of (e ∷ es) b ≡ true
of_other e es b sorted is = go (nat_cmp b.number e.0) refl
  where
    go : (o : Ordering) → nat_cmp b.number e.0 ≡ o → is_some (with_start b.start (cond (is_eq o) (Some e.1) (lookup (is_at (nat_cmp b.number)) es))) ≡ true
    go Less same = is
    go Greater same = is
    go Equal same =
        let number : b.number ≡ e.0 = nat_cmp-IsAntisymmetric b.number e.0 same in
        let gone : lookup (is_at (nat_cmp b.number)) es ≡ None =
        ap (λ n. lookup (is_at (nat_cmp n)) es) number ∙ none_below e.0 es (sorted_head nat_cmp e.0 (keys_of es) sorted) in
        absurd (true≢false (sym is ∙ ap (λ o. is_some (with_start b.start o)) gone))

-- ---- the least start

-- it is at most each start
least_at_most : (n : ℕ) (es : List Entry) (b : InstanceStart) → is_start_of es b ≡ true → least_start n es ≤ b.start
least_at_most n [] b is = absurd (cc)
least_at_most n (e ∷ es) b is = go (is_at (nat_cmp b.number) e.0) (least_at_most n es b) is
  where
    here : (t : Bool) → (e.1.start == b.start) ≡ t → is_some (if t then Some e.1 else None) ≡ true → least_start n (e ∷ es) ≤ b.start
    here true same found = let at : e.1.start ≡ b.start = eqb-true e.1.start b.start same in omega (arith, at)
    here false other found = absurd (cc)

    go : (t : Bool) → (is_start_of es b ≡ true → least_start n es ≤ b.start) →
        is_some (with_start b.start (cond t (Some e.1) (lookup (is_at (nat_cmp b.number)) es))) ≡ true → least_start n (e ∷ es) ≤ b.start
    go true rest found = here (e.1.start == b.start) refl found
    go false rest found = omega (arith, rest found)

-- it is at least what no start is below
least_at_least : (n : ℕ) (es : List Entry) (start : ℕ) → IsStrictlySortedBy nat_cmp (keys_of es) → ((b : InstanceStart) → is_start_of es b ≡ true → start ≤ b.start) →
    min start n ≤ least_start n es
least_at_least n [] start sorted low = omega arith
least_at_least n (e ∷ es) start sorted low =
    let here : start ≤ e.1.start = low (start_of e) (of_first e es) in
    let rest : min start n ≤ least_start n es =
    least_at_least n es start (sorted_tail nat_cmp e.0 (keys_of es) sorted) (λ (b : InstanceStart) is. low b (of_other e es b sorted is)) in
    omega (arith, here, rest)

-- ---- what begins and ends

-- it is that of the instance that begins, or of one that is active
start_new :
    (active after : List Entry) (number : ℕ) (i : Instance) → ((q : ℕ) → lookup (is_at (nat_cmp q)) after ≡ cond (is_at (nat_cmp number) q) (Some i) (lookup (is_at (nat_cmp q)) active)) →
    (b : InstanceStart) → is_start_of after b ≡ true → ((number ≡ b.number) × (i.start ≡ b.start)) ⊎ (is_start_of active b ≡ true)
start_new active after number i adds b is =
    go (is_at (nat_cmp number) b.number) refl (sym (ap (λ o. is_some (with_start b.start o)) (adds b.number)) ∙ is)
  where
    here : (t : Bool) → (i.start == b.start) ≡ t → is_some (if t then Some i else None) ≡ true → i.start ≡ b.start
    here true same h = eqb-true i.start b.start same
    here false same h = absurd (cc)

    go : (t : Bool) → is_at (nat_cmp number) b.number ≡ t → is_some (with_start b.start (cond t (Some i) (lookup (is_at (nat_cmp b.number)) active))) ≡ true →
        ((number ≡ b.number) × (i.start ≡ b.start)) ⊎ (is_start_of active b ≡ true)
    go true at h = inl (at_number number b.number at, here (i.start == b.start) refl h)
    go false at h = inr h

-- that of the instance that begins
start_here :
    (active after : List Entry) (number : ℕ) (i : Instance) → ((q : ℕ) → lookup (is_at (nat_cmp q)) after ≡ cond (is_at (nat_cmp number) q) (Some i) (lookup (is_at (nat_cmp q)) active)) →
    (b : InstanceStart) → number ≡ b.number → i.start ≡ b.start → is_start_of after b ≡ true
start_here active after number i adds b same at =
    ap (λ o. is_some (with_start b.start o)) (adds b.number ∙ ap (λ t. cond t (Some i) (lookup (is_at (nat_cmp b.number)) active)) (number_at number b.number same))
    ∙ ap (λ t. is_some (if t then Some i else None)) (eq-eqb i.start b.start at)

-- the number of an active instance is below what all are below
start_below : (es : List Entry) (number : ℕ) → All (λ e. e.0 < number) es → (b : InstanceStart) → is_start_of es b ≡ true → b.number < number
start_below [] number all b is = absurd (cc)
start_below (e ∷ es) number all b is = go (is_at (nat_cmp b.number) e.0) refl (start_below es number (All-tail (λ (x : Entry). x.0 < number) e es all) b) is
  where
    go : (t : Bool) → is_at (nat_cmp b.number) e.0 ≡ t → (is_start_of es b ≡ true → b.number < number) →
        is_some (with_start b.start (cond t (Some e.1) (lookup (is_at (nat_cmp b.number)) es))) ≡ true → b.number < number
    go true at rest h =
        let same : b.number ≡ e.0 = at_number b.number e.0 at in
        let here : e.0 < number = All-head (λ (x : Entry). x.0 < number) e es all in
        omega (arith, same, here)
    go false at rest h = rest h

-- that of an instance that is active still
start_kept :
    (active after : List Entry) (number : ℕ) (o : Option Instance) → ((q : ℕ) → lookup (is_at (nat_cmp q)) after ≡ cond (is_at (nat_cmp number) q) o (lookup (is_at (nat_cmp q)) active)) →
    (b : InstanceStart) → is_at (nat_cmp number) b.number ≡ false → is_start_of after b ≡ is_start_of active b
start_kept active after number o updates b other =
    ap (λ x. is_some (with_start b.start x)) (updates b.number ∙ ap (λ t. cond t o (lookup (is_at (nat_cmp b.number)) active)) other)

-- what a set has that has, or has not, one start more
noted_tells : (lt at had : Bool) → (if lt && at then true else had) ≡ true → ((lt ≡ true) × (at ≡ true)) ⊎ (had ≡ true)
noted_tells true true had h = inl (refl, refl)
noted_tells true false had h = inr h
noted_tells false at had h = inr h

noted_not : (lt at had : Bool) → (if lt && at then true else had) ≡ false → (had ≡ false) × (at ≡ true → lt ≡ false)
noted_not true true had h = absurd (cc)
noted_not true false had h = (h, λ at. absurd (cc))
noted_not false at had h = (h, λ _. refl)

pub one_begins :
    (active after : List Entry) (before noted : BTreeSet InstanceStart) (newest number : ℕ) (i : Instance) (s : InstanceStart) → s.start ≡ i.start → s.number ≡ number →
    AreInTurn active before newest → All (λ e. e.0 < number) active → IsStrictlySortedBy nat_cmp (keys_of after) →
    ((q : ℕ) → lookup (is_at (nat_cmp q)) after ≡ cond (is_at (nat_cmp number) q) (Some i) (lookup (is_at (nat_cmp q)) active)) →
    IsNoted newest s before noted → AreInTurn after noted (max newest s.start)
one_begins active after before noted newest number i s at called are below sorted adds notes = record {
  ordered = sorted;
  among = λ b h. among b (noted_tells (nat_lt s.start newest) (is_at (instance_start_cmp s) b) (contains instance_start_cmp before b) (sym (notes b) ∙ h));
  in_turn = λ a b is_a is_b le not. in_turn a b (start_new active after number i adds a is_a) (start_new active after number i adds b is_b) le
      (noted_not (nat_lt s.start newest) (is_at (instance_start_cmp s) b) (contains instance_start_cmp before b) (sym (notes b) ∙ not));
  within = λ b is. within b (start_new active after number i adds b is);
}
  where
    among : (b : InstanceStart) → ((nat_lt s.start newest ≡ true) × (is_at (instance_start_cmp s) b ≡ true)) ⊎ (contains instance_start_cmp before b ≡ true) → is_start_of after b ≡ true
    among b (inl new) =
        let same = same_start s b new.1 in
        start_here active after number i adds b (sym called ∙ same.1) (sym at ∙ same.0)
    among b (inr old) =
        let is = are.among b old in
        let low : b.number < number = start_below active number below b is in
        start_kept active after number (Some i) adds b (other_number number b.number (λ e. omega (arith, e, low))) ∙ is

    in_turn : (a b : InstanceStart) → ((number ≡ a.number) × (i.start ≡ a.start)) ⊎ (is_start_of active a ≡ true) → ((number ≡ b.number) × (i.start ≡ b.start)) ⊎ (is_start_of active b ≡ true) →
        a.number ≤ b.number → (contains instance_start_cmp before b ≡ false) × (is_at (instance_start_cmp s) b ≡ true → nat_lt s.start newest ≡ false) → a.start ≤ b.start
    in_turn a b (inl x) (inl y) le not = omega (arith, x.1, y.1)
    in_turn a b (inr x) (inl y) le not =
        let newer : newest ≤ s.start = ltb-false s.start newest (not.1 (start_same s b (at ∙ y.1) (called ∙ y.0))) in
        let old : a.start ≤ newest = are.within a x in
        omega (arith, newer, old, at, y.1)
    in_turn a b (inl x) (inr y) le not =
        let low : b.number < number = start_below active number below b y in
        absurd (omega (arith, low, x.0, le))
    in_turn a b (inr x) (inr y) le not = are.in_turn a b x y le not.0

    within : (b : InstanceStart) → ((number ≡ b.number) × (i.start ≡ b.start)) ⊎ (is_start_of active b ≡ true) → b.start ≤ max newest s.start
    within b (inl x) = omega (arith, at, x.1)
    within b (inr x) = let old : b.start ≤ newest = are.within b x in omega (arith, old)

pub one_ends :
    (active after : List Entry) (before left : BTreeSet InstanceStart) (newest number : ℕ) (i : Instance) (s : InstanceStart) → s.start ≡ i.start → s.number ≡ number →
    AreInTurn active before newest → lookup (is_at (nat_cmp number)) active ≡ Some i → IsStrictlySortedBy nat_cmp (keys_of after) →
    ((q : ℕ) → lookup (is_at (nat_cmp q)) after ≡ cond (is_at (nat_cmp number) q) None (lookup (is_at (nat_cmp q)) active)) →
    ((q : InstanceStart) → contains instance_start_cmp left q ≡ cond (is_at (instance_start_cmp s) q) false (contains instance_start_cmp before q)) →
    AreInTurn after left newest
one_ends active after before left newest number i s at called are had sorted drops removes = record {
  ordered = sorted;
  among = λ b h. among b (is_at (instance_start_cmp s) b) refl (sym (removes b) ∙ h);
  in_turn = λ a b is_a is_b le not.
      let x = still a is_a in
      let y = still b is_b in
      are.in_turn a b x.0 y.0 le (was_not b (is_at (instance_start_cmp s) b) refl y.1 (sym (removes b) ∙ not));
  within = λ b is. are.within b (still b is).0;
}
  where
    still : (b : InstanceStart) → is_start_of after b ≡ true → (is_start_of active b ≡ true) × (is_at (nat_cmp number) b.number ≡ false)
    still b is = go (is_at (nat_cmp number) b.number) refl (sym (ap (λ o. is_some (with_start b.start o)) (drops b.number)) ∙ is)
      where
        go : (t : Bool) → is_at (nat_cmp number) b.number ≡ t → is_some (with_start b.start (cond t None (lookup (is_at (nat_cmp b.number)) active))) ≡ true →
            (is_start_of active b ≡ true) × (is_at (nat_cmp number) b.number ≡ false)
        go true same h = absurd (cc)
        go false same h = (h, same)

    among : (b : InstanceStart) (t : Bool) → is_at (instance_start_cmp s) b ≡ t → cond t false (contains instance_start_cmp before b) ≡ true → is_start_of after b ≡ true
    among b true same h = absurd (cc)
    among b false same h = go (is_at (nat_cmp number) b.number) refl (are.among b h)
      where
        here : (t : Bool) → (i.start == b.start) ≡ t → number ≡ b.number → is_some (if t then Some i else None) ≡ true → is_start_of after b ≡ true
        here true e n g = absurd (true≢false (sym (start_same s b (at ∙ eqb-true i.start b.start e) (called ∙ n)) ∙ same))
        here false e n g = absurd (cc)

        go : (t : Bool) → is_at (nat_cmp number) b.number ≡ t → is_start_of active b ≡ true → is_start_of after b ≡ true
        go true e is =
            let n : number ≡ b.number = at_number number b.number e in
            here (i.start == b.start) refl n (sym (ap (λ o. is_some (with_start b.start o)) (ap (λ m. lookup (is_at (nat_cmp m)) active) (sym n) ∙ had)) ∙ is)
        go false e is = start_kept active after number None drops b e ∙ is

    was_not : (b : InstanceStart) (t : Bool) → is_at (instance_start_cmp s) b ≡ t → is_at (nat_cmp number) b.number ≡ false → cond t false (contains instance_start_cmp before b) ≡ false →
        contains instance_start_cmp before b ≡ false
    was_not b true same other h = absurd (true≢false (sym (number_at number b.number (sym called ∙ (same_start s b same).1)) ∙ other))
    was_not b false same other h = h

-- a start that is taken back
pub taken_back :
    (active after : List Entry) (before noted left : BTreeSet InstanceStart) (newest number : ℕ) (s : InstanceStart) → s.number ≡ number →
    AreInTurn active before newest → All (λ e. e.0 < number) active → IsNoted newest s before noted →
    ((q : InstanceStart) → contains instance_start_cmp left q ≡ cond (is_at (instance_start_cmp s) q) false (contains instance_start_cmp noted q)) →
    after ≡ active → AreInTurn after left newest
taken_back active after before noted left newest number s called are below notes removes unchanged =
    subst (λ (es : List Entry). AreInTurn es left newest) (sym unchanged) (record {
      ordered = are.ordered;
      among = λ b h. are.among b (sym (same b (is_at (instance_start_cmp s) b) refl) ∙ h);
      in_turn = λ a b is_a is_b le not. are.in_turn a b is_a is_b le (sym (same b (is_at (instance_start_cmp s) b) refl) ∙ not);
      within = are.within;
    })
  where
    absent : (b : InstanceStart) → is_at (instance_start_cmp s) b ≡ true → (c : Bool) → contains instance_start_cmp before b ≡ c → false ≡ c
    absent b at false h = refl
    absent b at true h =
        let low : b.number < number = start_below active number below b (are.among b h) in
        let n : s.number ≡ b.number = (same_start s b at).1 in
        absurd (omega (arith, low, n, called))

    none_more : (lt had : Bool) → (if lt && false then true else had) ≡ had
    none_more true had = refl
    none_more false had = refl

    same : (b : InstanceStart) (t : Bool) → is_at (instance_start_cmp s) b ≡ t → contains instance_start_cmp left b ≡ contains instance_start_cmp before b
    same b true at =
        removes b ∙ ap (λ t. cond t false (contains instance_start_cmp noted b)) at ∙ absent b at (contains instance_start_cmp before b) refl
    same b false at =
        removes b ∙ ap (λ t. cond t false (contains instance_start_cmp noted b)) at
        ∙ notes b ∙ ap (λ t. if nat_lt s.start newest && t then true else contains instance_start_cmp before b) at ∙ none_more (nat_lt s.start newest) (contains instance_start_cmp before b)

-- ---- the least start, by the first in turn and those out of turn

pub least_first : (n : ℕ) (active : List Entry) (k : ℕ) (i : Instance) → slice_get active 0 ≡ Some (k, i) → least_start n active ≤ i.start
least_first n [] k i is = absurd (cc)
least_first n (e ∷ es) k i is =
    let same : e ≡ (k, i) = cc in
    let at : e.1.start ≡ i.start = ap (λ (x : Entry). x.1.start) same in
    omega (arith, at)

pub least_lower :
    (n : ℕ) (active : List Entry) (others : BTreeSet InstanceStart) (newest k : ℕ) (i : Instance) (low : ℕ) → AreInTurn active others newest → slice_get active 0 ≡ Some (k, i) →
    ((q : ℕ) → IsSome (lookup (is_at (nat_cmp q)) active) → is_gt (nat_cmp k q) ≡ false) → low ≤ i.start → ((b : InstanceStart) → contains instance_start_cmp others b ≡ true → low ≤ b.start) →
    min low n ≤ least_start n active
least_lower n [] others newest k i low are is lowest first known = absurd (cc)
least_lower n (e ∷ es) others newest k i low are is lowest first known = least_at_least n (e ∷ es) low are.ordered (λ b here. go b here (contains instance_start_cmp others b) refl)
  where
    same : e ≡ (k, i)
    same = cc

    go : (b : InstanceStart) → is_start_of (e ∷ es) b ≡ true → (t : Bool) → contains instance_start_cmp others b ≡ t → low ≤ b.start
    go b here true h = known b h
    go b here false h =
        let at : e.1.start ≡ i.start = ap (λ (x : Entry). x.1.start) same in
        let number : e.0 ≡ k = ap (λ (x : Entry). x.0) same in
        let up : k ≤ b.number = le_from_not_gt k b.number (lowest b.number (some_at b.start (lookup (is_at (nat_cmp b.number)) (e ∷ es)) here)) in
        let later : e.1.start ≤ b.start = are.in_turn (start_of e) b (of_first e es) here (omega (arith, number, up)) h in
        omega (arith, first, at, later)

pub least_both :
    (n : ℕ) (active : List Entry) (others : BTreeSet InstanceStart) (newest k : ℕ) (i : Instance) (other : InstanceStart) → AreInTurn active others newest → slice_get active 0 ≡ Some (k, i) →
    ((q : ℕ) → IsSome (lookup (is_at (nat_cmp q)) active) → is_gt (nat_cmp k q) ≡ false) → IsTrue (contains instance_start_cmp others other) → IsLowerBound instance_start_cmp others other →
    min other.start (min i.start n) ≡ least_start n active
least_both n active others newest k i other are is lowest among least =
    let low : ℕ = min other.start i.start in
    let lower : min low n ≤ least_start n active =
    least_lower n active others newest k i low are is lowest (omega arith) (λ b h. let up : other.start ≤ b.start = not_above other b (least b h) in omega (arith, up)) in
    let upper : least_start n active ≤ other.start = least_at_most n active other (are.among other among) in
    omega (arith, lower, upper, least_first n active k i is, least-within n active)

pub least_alone :
    (n : ℕ) (active : List Entry) (others : BTreeSet InstanceStart) (newest k : ℕ) (i : Instance) → AreInTurn active others newest → slice_get active 0 ≡ Some (k, i) →
    ((q : ℕ) → IsSome (lookup (is_at (nat_cmp q)) active) → is_gt (nat_cmp k q) ≡ false) → (0 < length others.keys → ⊥) → min i.start n ≡ least_start n active
least_alone n active others newest k i are is lowest none =
    let lower : min i.start n ≤ least_start n active =
    least_lower n active others newest k i i.start are is lowest (omega arith) (λ b h. absurd (true≢false (sym h ∙ nothing b))) in
    omega (arith, lower, least_first n active k i is, least-within n active)
  where
    empty : (ks : List InstanceStart) → (0 < length ks → ⊥) → ks ≡ []
    empty [] few = refl
    empty (k ∷ ks) few = absurd (few (omega arith))

    nothing : (b : InstanceStart) → contains instance_start_cmp others b ≡ false
    nothing b = ap (λ ks. list_any (is_at (instance_start_cmp b)) ks) (empty others.keys none)

-- where no instance is active
pub least_of_none : (n : ℕ) (active : List Entry) → (0 < length active → ⊥) → n ≡ least_start n active
least_of_none n [] none = refl
least_of_none n (e ∷ es) none = absurd (none (omega arith))
