-- What tests of near commits tell of the least order.
use Rattle.std.proofs.Common.{◌≡◌, ◌≢◌, ℕ, zero, suc, max, ◌+◌, ◌<◌, ◌≤◌, ◌==◌, ◌||◌, Bool, true, false, List, [], ◌∷◌, ◌++◌, length, set, get_or, replicate, ◌⊎◌, inl, inr, refl, sym, ap, ◌∙◌, subst, arith, Some, slice_index}
use Rattle.std.specs.Prelude.{option_and_then}
use Rattle.std.specs.List.{range_with_len}
use Rattle.std.proofs.lemmas.Bool.{cases_lt, false≢true, false_from_ne_true}
use Rattle.std.proofs.lemmas.Bool.Decides.{eqb_tells}
use Rattle.std.proofs.lemmas.List.{get_or-set_same, get_or-set_other, length-set, length-replicate}
use Rattle.std.proofs.Math.Bool.{or-true, or-false}
use Rattle.serial_orders.specs.Horizons.{AreHorizons}
use Rattle.serial_orders.specs.Nearby.{is_marked, AreMarked, IsMarkedBelow, IsFreeTest, IsFirstFree, IsHolder, IsTestedBelow, AreHolders}
use Rattle.serial_orders.specs.Orders.{is_one_of, is_free, first_free, placed_by, least_order, IsUpTo}
use Rattle.serial_orders.specs.TraceView.{TraceView}
use Rattle.serial_orders.specs.Traces.{trace_depends}
use Rattle.serial_orders.proofs.LeastFree.{first-free}
use Rattle.serial_orders.proofs.NumberLists.{Same, one-push}
use Rattle.serial_orders.proofs.OrderLaws.{member_of, is_one_of-member, free_by_test, free_tested}

-- ---- what is free

module _ (traces : List TraceView) (marks : List Bool) where
  abbrev before : ℕ → ℕ → Bool
  before i j = trace_depends traces i j

  abbrev all : List ℕ
  all = range_with_len 1 (length traces)

  pub placed-held : (n : ℕ) → is_marked marks n ≡ true → IsFreeTest traces marks n false
  placed-held n marked placed are =
      false_from_ne_true (is_free before all placed n) (λ free.
      (free_by_test before (length traces) placed n free).0 (member_of placed n (sym (are n) ∙ marked)))

  pub waiting-held : (i n : ℕ) → IsHolder traces i n → is_marked marks i ≡ false → IsFreeTest traces marks n false
  waiting-held i n holder unplaced placed are =
      false_from_ne_true (is_free before all placed n) (λ free.
      false≢true (sym unplaced ∙ are i ∙ is_one_of-member placed i ((free_by_test before (length traces) placed n free).1 i holder.0 holder.1)))

  pub over-free : (n : ℕ) → is_marked marks n ≡ false → ((i : ℕ) → IsHolder traces i n → is_marked marks i ≡ true) → IsFreeTest traces marks n true
  over-free n unplaced over placed are =
      free_tested before (length traces) placed n (
        (λ m. false≢true (sym unplaced ∙ are n ∙ is_one_of-member placed n m)),
        λ i up held. member_of placed i (sym (are i) ∙ over i (up, held)),
      )

  -- the first that is free
  pub found-first : (from n : ℕ) → IsMarkedBelow marks from → IsUpTo (length traces) n → from ≤ n → IsFreeTest traces marks n true
      → ((m : ℕ) → from ≤ m → m < n → IsFreeTest traces marks m false) → IsFirstFree traces marks n
  found-first from n below up low free held placed are =
      let first = up.0 in
      let last = up.1 in
      first-free before all placed (length traces) 1 n (omega arith) (omega arith) (free placed are) (λ q a b. go q a b (cases_lt q from))
    where
      go : (q : ℕ) → 1 ≤ q → q < n → (q < from) ⊎ (from ≤ q) → is_free before all placed q ≡ false
      go q a b (inl l) = placed-held q (below.marked q a l) placed are
      go q a b (inr l) = held q l b placed are

-- ---- tests up to a horizon

-- none that was tested has to stand before it, and none behind the horizon can
pub over-tested : (traces : List TraceView) (horizons : List ℕ) (marks : List Bool) (n bound : ℕ) → AreHorizons traces horizons → IsUpTo (length traces) n
    → slice_index horizons n < bound → IsTestedBelow traces marks n bound → (i : ℕ) → IsHolder traces i n → is_marked marks i ≡ true
over-tested traces horizons marks n bound near up past tested i holder =
    let h = near.whole i n holder.0 up holder.1 in tested i holder (omega arith)

pub tested-next : (traces : List TraceView) (marks : List Bool) (n other : ℕ) → IsTestedBelow traces marks n other → (IsHolder traces other n → is_marked marks other ≡ true) → IsTestedBelow traces marks n (other + 1)
tested-next traces marks n other tested now i holder high = go (cases_lt i other)
  where
    go : (i < other) ⊎ (other ≤ i) → is_marked marks i ≡ true
    go (inl l) = tested i holder l
    go (inr l) =
        let same : other ≡ i = omega arith in
        subst (λ m. is_marked marks m ≡ true) same (now (subst (λ m. IsHolder traces m n) (sym same) holder))

-- the lesser ones are marked, or were tested
pub tested-max : (traces : List TraceView) (marks : List Bool) (holders : List ℕ) (from n : ℕ) → IsMarkedBelow marks from → AreHolders traces marks holders → IsTestedBelow traces marks n (max from (slice_index holders n))
tested-max traces marks holders from n below are i holder high = go (cases_lt i from) (cases_lt i (slice_index holders n))
  where
    go : (i < from) ⊎ (from ≤ i) → (i < slice_index holders n) ⊎ (slice_index holders n ≤ i) → is_marked marks i ≡ true
    go (inl l) _ = below.marked i holder.0.0 l
    go (inr l) (inl h) = are.tested n i holder h
    go (inr l) (inr h) = absurd (omega arith)

-- ---- marks

pub marked-more : (marks : List Bool) (placed : List ℕ) (p : ℕ) → p < length marks → AreMarked placed marks → AreMarked (placed ++ p ∷ []) (set marks p true)
marked-more marks placed p within are n = go (eqb_tells p n) ∙ sym (one-push placed p n)
  where
    go : Same p n → is_marked (set marks p true) n ≡ (is_one_of placed n || p == n)
    go (inl e) = rw e.0 (subst (λ m. is_marked (set marks p true) m ≡ (is_one_of placed n || true)) e.1 (get_or-set_same marks p true false within ∙ sym (or-true (is_one_of placed n))))
    go (inr e) = rw e.0 (get_or-set_other marks p n true false (λ s. e.1 (sym s)) ∙ are n ∙ sym (or-false (is_one_of placed n)))

-- ---- turns

pub held-next : (traces : List TraceView) (marks : List Bool) (from number : ℕ) → ((n : ℕ) → from ≤ n → n < number → IsFreeTest traces marks n false)
    → IsFreeTest traces marks number false → (n : ℕ) → from ≤ n → n < number + 1 → IsFreeTest traces marks n false
held-next traces marks from number held now n low high = go (cases_lt n number)
  where
    go : (n < number) ⊎ (number ≤ n) → IsFreeTest traces marks n false
    go (inl l) = held n low l
    go (inr l) = let same : number ≡ n = omega arith in subst (λ m. IsFreeTest traces marks m false) same now

pub holders-set : (traces : List TraceView) (marks : List Bool) (holders : List ℕ) (p h : ℕ) → p < length holders → AreHolders traces marks holders
    → IsHolder traces h p → IsTestedBelow traces marks p h → AreHolders traces marks (set holders p h)
holders-set traces marks holders p h within are holder below = record {
  long = length-set holders p h ∙ are.long;
  holds = λ n some. held n some (eqb_tells p n);
  tested = λ n. tested n (eqb_tells p n);
}
  where
    here : get_or (set holders p h) p 0 ≡ h
    here = get_or-set_same holders p h 0 within

    there : (n : ℕ) → p ≢ n → get_or (set holders p h) n 0 ≡ get_or holders n 0
    there n apart = get_or-set_other holders p n h 0 (λ s. apart (sym s))

    held : (n : ℕ) → get_or (set holders p h) n 0 ≢ 0 → Same p n → IsHolder traces (get_or (set holders p h) n 0) n
    held n some (inl e) = subst (λ q. IsHolder traces (get_or (set holders p h) q 0) q) e.1 (subst (λ m. IsHolder traces m p) (sym here) holder)
    held n some (inr e) = subst (λ m. IsHolder traces m n) (sym (there n e.1)) (are.holds n (λ z. some (there n e.1 ∙ z)))

    tested : (n : ℕ) → Same p n → IsTestedBelow traces marks n (get_or (set holders p h) n 0)
    tested n (inl e) = subst (λ q. IsTestedBelow traces marks q (get_or (set holders p h) q 0)) e.1 (subst (λ m. IsTestedBelow traces marks p m) (sym here) below)
    tested n (inr e) = subst (λ m. IsTestedBelow traces marks n m) (sym (there n e.1)) (are.tested n)

-- ---- the start

get-none : (k n : ℕ) → is_marked (replicate k false) n ≡ false
get-none zero n = refl
get-none (suc k) zero = refl
get-none (suc k) (suc n) = get-none k n

abbrev pub zeros : ℕ → List ℕ
zeros k = replicate k 0

get-zero : (k n : ℕ) → get_or (zeros k) n 0 ≡ 0
get-zero zero n = refl
get-zero (suc k) zero = refl
get-zero (suc k) (suc n) = get-zero k n

pub start-marked : (marks : List Bool) (placed : List ℕ) (k : ℕ) → marks ≡ replicate k false → placed ≡ [] → AreMarked placed marks
start-marked marks placed k is none n = ap (λ bs. is_marked bs n) is ∙ get-none k n ∙ sym (ap (λ ns. is_one_of ns n) none)

pub start-holders : (traces : List TraceView) (marks : List Bool) (holders : List ℕ) → holders ≡ zeros (length traces + 1) → AreHolders traces marks holders
start-holders traces marks holders is = record {
  long = ap (λ (ns : List ℕ). length ns) is ∙ length-replicate (length traces + 1) 0;
  holds = λ n some. absurd (some (none n));
  tested = λ n i holder below. absurd (let z = none n in omega arith);
}
  where
    none : (n : ℕ) → get_or holders n 0 ≡ 0
    none n = ap (λ ns. get_or ns n 0) is ∙ get-zero (length traces + 1) n

pub start-below : (marks : List Bool) → IsMarkedBelow marks 1
start-below marks = record { first = omega arith; marked = λ n low high. absurd (omega arith) }

pub start-order : (traces : List TraceView) (placed : List ℕ) → placed ≡ [] → (k : ℕ) → k + 0 ≡ length traces
    → placed_by (trace_depends traces) (range_with_len 1 (length traces)) k placed ≡ least_order (trace_depends traces) (length traces)
start-order traces placed none k e =
    let same : k ≡ length traces = omega arith in
    ap (placed_by (trace_depends traces) (range_with_len 1 (length traces)) k) none
    ∙ ap (λ m. placed_by (trace_depends traces) (range_with_len 1 (length traces)) m []) same

-- ---- one more place

pub next-order : (traces : List TraceView) (placed : List ℕ) (p turn : ℕ)
    → first_free (trace_depends traces) (range_with_len 1 (length traces)) placed (range_with_len 1 (length traces)) ≡ Some p
    → ((k : ℕ) → k + turn ≡ length traces → placed_by (trace_depends traces) (range_with_len 1 (length traces)) k placed ≡ least_order (trace_depends traces) (length traces))
    → (k : ℕ) → k + (turn + 1) ≡ length traces
    → placed_by (trace_depends traces) (range_with_len 1 (length traces)) k (placed ++ p ∷ []) ≡ least_order (trace_depends traces) (length traces)
next-order traces placed p turn first so_far k e =
    sym (ap (option_and_then (λ m. placed_by (trace_depends traces) (range_with_len 1 (length traces)) k (placed ++ m ∷ []))) first)
    ∙ so_far (suc k) (omega arith)

pub marked-set : (marks : List Bool) (p n : ℕ) → p < length marks → is_marked marks n ≡ true → is_marked (set marks p true) n ≡ true
marked-set marks p n within marked = go (eqb_tells p n)
  where
    go : Same p n → is_marked (set marks p true) n ≡ true
    go (inl e) = subst (λ m. is_marked (set marks p true) m ≡ true) e.1 (get_or-set_same marks p true false within)
    go (inr e) = get_or-set_other marks p n true false (λ s. e.1 (sym s)) ∙ marked

pub below-set : (marks : List Bool) (p bound : ℕ) → p < length marks → IsMarkedBelow marks bound → IsMarkedBelow (set marks p true) bound
below-set marks p bound within below = record { first = below.first; marked = λ n low high. marked-set marks p n within (below.marked n low high) }

pub holders-place : (traces : List TraceView) (marks : List Bool) (holders : List ℕ) (p : ℕ) → p < length marks → AreHolders traces marks holders → AreHolders traces (set marks p true) holders
holders-place traces marks holders p within are = record {
  long = are.long;
  holds = are.holds;
  tested = λ n i holder below. marked-set marks p i within (are.tested n i holder below);
}
