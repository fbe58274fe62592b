-- Laws of numbers that rise, and of the writers of a cell.
use Rattle.std.proofs.Common.{◌≡◌, ◌∙◌, ◌==◌, ◌⊎◌, inl, inr, ℕ, zero, suc, ◌+◌, ◌<◌, ◌≤◌, nat_lt, Bool, true, false, true≢false, ◌||◌, if◌then◌else◌, List, [], ◌∷◌, length, get_or, refl, ap, sym, subst, arith}
use Rattle.std.specs.Prelude.{nat_le, Option, Some, None, slice_get, IfSome, unwrap_or}
use Rattle.std.specs.Option.{option_or}
use Rattle.std.proofs.lemmas.Option.{slice_get_cases}
use Rattle.std.proofs.lemmas.Bool.{or_cases, or_left, or_right, eq-eqb, eqb-true, le-leb, leb-true, lt-ltb, ltb-true, ne_eqb}
use Rattle.prog_tree.specs.declared.cell.Cell.{Cell}
use Rattle.version_store.proofs.RisingLaws.{rises_more}
use Rattle.serial_orders.specs.Orders.{is_one_of, IsUpTo}
use Rattle.serial_orders.specs.Reduced.{RiseFrom, writers_from, writers_of, last_seen, first_missed}
use Rattle.serial_orders.specs.TraceView.{TraceView}
use Rattle.serial_orders.specs.Traces.{changed_at, trace_at, no_trace}

pub at_least : (n : ℕ) (ms : List ℕ) (w : ℕ) → RiseFrom n ms → is_one_of ms w ≡ true → n ≤ w
at_least n [] w rise h = absurd (cc)
at_least n (m ∷ ms) w rise h = go (or_cases (m == w) (is_one_of ms w) h) (λ later. at_least (m + 1) ms w rise.1 later)
  where
    go : ((m == w) ≡ true) ⊎ (is_one_of ms w ≡ true) → (is_one_of ms w ≡ true → m + 1 ≤ w) → n ≤ w
    go (inl same) rest = let is : m ≡ w = eqb-true m w same in omega (arith, is, rise.0)
    go (inr later) rest = omega (arith, rest later, rise.0)

not_below : (n : ℕ) (ms : List ℕ) (w : ℕ) → RiseFrom n ms → w < n → is_one_of ms w ≡ false
not_below n ms w rise low = go (is_one_of ms w) refl
  where
    go : (b : Bool) → is_one_of ms w ≡ b → is_one_of ms w ≡ false
    go true is = absurd (let up = at_least n ms w rise is in omega (arith, up, low))
    go false is = is

pub writers_rise : (k : ℕ) (ts : List TraceView) (c : Cell) → RiseFrom k (writers_from k ts c)
writers_rise k [] c = tt
writers_rise k (t ∷ ts) c = go (changed_at t c) (writers_rise (k + 1) ts c)
  where
    go : (b : Bool) → RiseFrom (k + 1) (writers_from (k + 1) ts c) → RiseFrom k (if b then k ∷ writers_from (k + 1) ts c else writers_from (k + 1) ts c)
    go true rest = (omega arith, rest)
    go false rest = rises_more (λ (m : ℕ). m) k (k + 1) (writers_from (k + 1) ts c) (omega arith) rest

one_of_writers : (k : ℕ) (ts : List TraceView) (c : Cell) (i : ℕ) → is_one_of (writers_from k ts c) (k + i) ≡ changed_at (unwrap_or (slice_get ts i) no_trace) c
one_of_writers k [] c zero = refl
one_of_writers k [] c (suc i) = refl
one_of_writers k (t ∷ ts) c zero = go (changed_at t c) refl
  where
    rest : List ℕ
    rest = writers_from (k + 1) ts c

    same : k + 0 ≡ k
    same = omega arith

    go : (b : Bool) → changed_at t c ≡ b → is_one_of (if b then k ∷ writers_from (k + 1) ts c else writers_from (k + 1) ts c) (k + 0) ≡ changed_at t c
    go true is = or_left (k == (k + 0)) (is_one_of (writers_from (k + 1) ts c) (k + 0)) (subst (λ n. (k == n) ≡ true) (sym same) (eq-eqb k k refl)) ∙ sym is
    go false is = not_below (k + 1) (writers_from (k + 1) ts c) (k + 0) (writers_rise (k + 1) ts c) (omega arith) ∙ sym is
one_of_writers k (t ∷ ts) c (suc i) = go (changed_at t c) ∙ ap (is_one_of (writers_from (k + 1) ts c)) next ∙ one_of_writers (k + 1) ts c i
  where
    next : k + suc i ≡ k + 1 + i
    next = omega arith

    go : (b : Bool) → is_one_of (if b then k ∷ writers_from (k + 1) ts c else writers_from (k + 1) ts c) (k + suc i) ≡ is_one_of (writers_from (k + 1) ts c) (k + suc i)
    go true = ap (λ b. b || is_one_of (writers_from (k + 1) ts c) (k + suc i)) (ne_eqb k (k + suc i) (λ same. omega (arith, same)))
    go false = refl

module _ (traces : List TraceView) where
  -- the number is one of a commit that changed the cell
  abbrev pub IsWriter : Cell → ℕ → Type 0
  IsWriter c w = is_one_of (writers_of traces c) w ≡ true

  pub writer_changed : (c : Cell) (w : ℕ) → IsWriter c w → changed_at (trace_at traces w) c ≡ true
  writer_changed c zero h = absurd (let low : 1 ≤ 0 = at_least 1 (writers_of traces c) 0 (writers_rise 1 traces c) h in omega (arith, low))
  writer_changed c (suc i) h =
      let same : 1 + i ≡ suc i = omega arith in
      sym (one_of_writers 1 traces c i) ∙ ap (is_one_of (writers_of traces c)) same ∙ h

  pub changed_writer : (c : Cell) (w : ℕ) → changed_at (trace_at traces w) c ≡ true → IsWriter c w
  changed_writer c zero h = absurd (cc)
  changed_writer c (suc i) h =
      let same : suc i ≡ 1 + i = omega arith in
      ap (is_one_of (writers_of traces c)) same ∙ one_of_writers 1 traces c i ∙ h

  upto_by : (i : ℕ) (c : Cell) → ((t : TraceView) × (i < length traces) × (slice_get traces i ≡ Some t)) ⊎ (slice_get traces i ≡ None) →
      changed_at (unwrap_or (slice_get traces i) no_trace) c ≡ true → IsUpTo (length traces) (suc i)
  upto_by i c (inl found) h = (omega arith, omega (arith, found.1))
  upto_by i c (inr none) h = absurd (let n : changed_at no_trace c ≡ true = subst (λ (o : Option TraceView). changed_at (unwrap_or o no_trace) c ≡ true) none h in cc)

  pub writer_upto : (c : Cell) (w : ℕ) → IsWriter c w → IsUpTo (length traces) w
  writer_upto c zero h = absurd (let low : 1 ≤ 0 = at_least 1 (writers_of traces c) 0 (writers_rise 1 traces c) h in omega (arith, low))
  writer_upto c (suc i) h = upto_by i c (found (slice_get_cases traces i).1) (writer_changed c (suc i) h)
    where
      found : ((t : TraceView) × (i < length traces) × (slice_get traces i ≡ Some t) × (get_or traces i t ≡ t)) ⊎ ((length traces ≤ i) × (slice_get traces i ≡ None)) →
          ((t : TraceView) × (i < length traces) × (slice_get traces i ≡ Some t)) ⊎ (slice_get traces i ≡ None)
      found (inl s) = inl (s.0, s.1, s.2)
      found (inr s) = inr s.1

-- ---- the last seen and the first missed

pub seen_is : (s : ℕ) (ms : List ℕ) → IfSome (last_seen s ms) (λ w. (is_one_of ms w ≡ true) × (w ≤ s))
seen_is s [] = tt
seen_is s (m ∷ ms) = go (last_seen s ms) (nat_le m s) refl (seen_is s ms)
  where
    go : (o : Option ℕ) (b : Bool) → nat_le m s ≡ b → IfSome o (λ w. (is_one_of ms w ≡ true) × (w ≤ s)) → IfSome (option_or o (if b then Some m else None)) (λ w. (is_one_of (m ∷ ms) w ≡ true) × (w ≤ s))
    go (Some w) b is rest = (or_right (m == w) (is_one_of ms w) rest.0, rest.1)
    go None true is rest = (or_left (m == m) (is_one_of ms m) (eq-eqb m m refl), leb-true m s is)
    go None false is rest = tt

pub missed_is : (s : ℕ) (ms : List ℕ) → IfSome (first_missed s ms) (λ w. (is_one_of ms w ≡ true) × (s < w))
missed_is s [] = tt
missed_is s (m ∷ ms) = go (nat_lt s m) refl (first_missed s ms) (missed_is s ms)
  where
    go : (b : Bool) → nat_lt s m ≡ b → (o : Option ℕ) → IfSome o (λ w. (is_one_of ms w ≡ true) × (s < w)) → IfSome (if b then Some m else o) (λ w. (is_one_of (m ∷ ms) w ≡ true) × (s < w))
    go true is o rest = (or_left (m == m) (is_one_of ms m) (eq-eqb m m refl), ltb-true s m is)
    go false is None rest = tt
    go false is (Some w) rest = (or_right (m == w) (is_one_of ms w) rest.0, rest.1)

-- the last seen is at least as great as each that is seen
pub record SeenFrom (s : ℕ) (ms : List ℕ) (i : ℕ) : Type 0 where
  pub last : ℕ
  pub is : last_seen s ms ≡ Some last
  pub from : i ≤ last

pub seen_from : (n s : ℕ) (ms : List ℕ) (i : ℕ) → RiseFrom n ms → is_one_of ms i ≡ true → i ≤ s → SeenFrom s ms i
seen_from n s [] i rise h low = absurd (cc)
seen_from n s (m ∷ ms) i rise h low = go (or_cases (m == i) (is_one_of ms i) h) (λ later. seen_from (m + 1) s ms i rise.1 later low)
  where
    first : (o : Option ℕ) → last_seen s ms ≡ o → IfSome o (λ w. (is_one_of ms w ≡ true) × (w ≤ s)) → m ≡ i → SeenFrom s (m ∷ ms) i
    first None none rest same =
        let within : nat_le m s ≡ true = le-leb m s (omega (arith, low, same)) in
        record { last = m; is = ap (λ (o : Option ℕ). option_or o (if nat_le m s then Some m else None)) none ∙ ap (λ b. option_or None (if b then Some m else None)) within; from = omega (arith, same) }
    first (Some w) some rest same =
        let up : m + 1 ≤ w = at_least (m + 1) ms w rise.1 rest.0 in
        record { last = w; is = ap (λ (o : Option ℕ). option_or o (if nat_le m s then Some m else None)) some; from = omega (arith, same, up) }

    go : ((m == i) ≡ true) ⊎ (is_one_of ms i ≡ true) → (is_one_of ms i ≡ true → SeenFrom s ms i) → SeenFrom s (m ∷ ms) i
    go (inl same) rest = first (last_seen s ms) refl (seen_is s ms) (eqb-true m i same)
    go (inr behind) rest =
        let found = rest behind in
        record { last = found.last; is = ap (λ (o : Option ℕ). option_or o (if nat_le m s then Some m else None)) found.is; from = found.from }

-- the first missed is at most each that is missed
pub record MissedTo (s : ℕ) (ms : List ℕ) (j : ℕ) : Type 0 where
  pub first : ℕ
  pub is : first_missed s ms ≡ Some first
  pub to : first ≤ j

pub missed_to : (n s : ℕ) (ms : List ℕ) (j : ℕ) → RiseFrom n ms → is_one_of ms j ≡ true → s < j → MissedTo s ms j
missed_to n s [] j rise h up = absurd (cc)
missed_to n s (m ∷ ms) j rise h up = go (nat_lt s m) refl (or_cases (m == j) (is_one_of ms j) h) (λ later. missed_to (m + 1) s ms j rise.1 later up)
  where
    go : (b : Bool) → nat_lt s m ≡ b → ((m == j) ≡ true) ⊎ (is_one_of ms j ≡ true) → (is_one_of ms j ≡ true → MissedTo s ms j) → MissedTo s (m ∷ ms) j
    go true is (inl same) rest = let eq : m ≡ j = eqb-true m j same in record { first = m; is = ap (λ b. if b then Some m else first_missed s ms) is; to = omega (arith, eq) }
    go true is (inr behind) rest =
        let above : m + 1 ≤ j = at_least (m + 1) ms j rise.1 behind in
        record { first = m; is = ap (λ b. if b then Some m else first_missed s ms) is; to = omega (arith, above) }
    go false is (inl same) rest = absurd (true≢false (sym (lt-ltb s m (let eq : m ≡ j = eqb-true m j same in omega (arith, eq, up))) ∙ is))
    go false is (inr behind) rest =
        let found = rest behind in
        record { first = found.first; is = ap (λ b. if b then Some m else first_missed s ms) is ∙ found.is; to = found.to }
