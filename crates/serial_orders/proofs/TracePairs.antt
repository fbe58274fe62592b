-- The few pairs say no more than the traces do, and all else follows from them.
use Rattle.std.proofs.Common.{◌≡◌, ◌∙◌, ◌==◌, ◌⊎◌, inl, inr, ℕ, zero, suc, ◌+◌, ◌<◌, ◌≤◌, nat_lt, Bool, true, false, true≢false, cond, ◌&&◌, not, if◌then◌else◌, List, [], ◌∷◌, ◌++◌, length, get_or, refl, ap, sym, subst, arith}
use Rattle.std.specs.Prelude.{nat_le, Option, Some, None, slice_get, IfSome, unwrap_or}
use Rattle.std.specs.List.{list_any}
use Rattle.std.specs.List.Sorted.{IsStrictlySortedBy}
use Rattle.std.proofs.lemmas.List.Elements.{All-nil, All-cons}
use Rattle.std.proofs.lemmas.Map.Keys.{sorted_tail}
use Rattle.std.proofs.lemmas.Option.{slice_get_cases}
use Rattle.std.proofs.lemmas.Bool.{and_from, and_parts, or_cases, or_left, or_right, eq-eqb, eqb-true, le-leb, lt-ltb, ne_eqb}
use Rattle.prog_tree.specs.declared.cell.Cell.{Cell}
use Rattle.prog_tree.specs.declared.cell.Region.{Region}
use Rattle.prog_tree.specs.Table.{cell_cmp, Cells, cells_of, at_cell, is_same_cell}
use Rattle.prog_tree.proofs.CellSets.{same-itself, none-behind}
use Rattle.version_store.proofs.RisingLaws.{rises_more}
use Rattle.serial_orders.specs.Orders.{is_one_of, IsUpTo}
use Rattle.serial_orders.specs.Reduced.{writers_of, HasWriters, RiseFrom, AreWithin, AllRiseWithin, Pairs, is_pair_among, successive_from, successive_pairs, writers_pairs, last_seen, first_missed, seen_pairs, missed_pairs, reader_pairs, region_pairs, sight_pairs, sights_pairs, readers_pairs}
use Rattle.serial_orders.specs.TraceView.{TraceView}
use Rattle.serial_orders.specs.Traces.{takes_in, looked_at, changed_at, trace_at, SeesEarlier, changes_again, sees_change, trace_depends, no_trace}
use Rattle.serial_orders.specs.declared.trace.Sight.{Sight}
use Rattle.serial_orders.specs.declared.trace.Sight.TheVariants as sight
use Rattle.serial_orders.proofs.RiseLaws.{writers_rise, IsWriter, writer_changed, writer_upto, seen_is, missed_is}
use Rattle.serial_orders.proofs.TestLaws.{apart_by_lt, any_at}
use Rattle.serial_orders.proofs.HorizonLaws.{saw_earlier}

-- ---- a map of writers

-- each entry has the writers of its cell
abbrev pub OfWriters : List TraceView → Cells (List ℕ) → Type 0
OfWriters traces [] = Unit {0}
OfWriters traces (e ∷ es) = (e.1 ≡ writers_of traces e.0) × OfWriters traces es

of_writers_by : (traces : List TraceView) (m : Cells (List ℕ)) → IsStrictlySortedBy cell_cmp (cells_of m) →
    ((c : Cell) (ws : List ℕ) → at_cell m c ≡ Some ws → ws ≡ writers_of traces c) → OfWriters traces m
of_writers_by traces [] sorted has = tt
of_writers_by traces (e ∷ es) sorted has = (
  has e.0 e.1 (ap (λ b. cond b (Some e.1) (at_cell es e.0)) (same-itself e.0)),
  of_writers_by traces es (sorted_tail cell_cmp e.0 (cells_of es) sorted) (λ c ws found. has c ws (kept c ws (is_same_cell c e.0) refl found)),
)
  where
    kept : (c : Cell) (ws : List ℕ) (b : Bool) → is_same_cell c e.0 ≡ b → at_cell es c ≡ Some ws → cond (is_same_cell c e.0) (Some e.1) (at_cell es c) ≡ Some ws
    kept c ws true is found = let none = none-behind e.0 c es sorted is in absurd (cc)
    kept c ws false is found = ap (λ b. cond b (Some e.1) (at_cell es c)) is ∙ found

pub of_writers : (traces : List TraceView) (m : Cells (List ℕ)) → IsStrictlySortedBy cell_cmp (cells_of m) → HasWriters traces m → OfWriters traces m
of_writers traces m sorted has = of_writers_by traces m sorted (λ c ws found. ap (λ (o : Option (List ℕ)). unwrap_or o []) (sym found) ∙ has c)

all_within : (traces : List TraceView) (c : Cell) (ws : List ℕ) → ((w : ℕ) → is_one_of ws w ≡ true → IsWriter traces c w) → AreWithin (length traces) ws
all_within traces c [] are = All-nil _
all_within traces c (w ∷ ws) are =
    All-cons (IsUpTo (length traces)) w ws (writer_upto traces c w (are w (or_left (w == w) (is_one_of ws w) (eq-eqb w w refl)))) (all_within traces c ws (λ v h. are v (or_right (w == v) (is_one_of ws v) h)))

pub all_rise_within : (traces : List TraceView) (m : Cells (List ℕ)) → OfWriters traces m → AllRiseWithin (length traces) m
all_rise_within traces [] of = All-nil _
all_rise_within traces (e ∷ es) of =
    All-cons (λ (d : Cell × List ℕ). RiseFrom 0 d.1 × AreWithin (length traces) d.1) e es (
      subst (λ (ws : List ℕ). RiseFrom 0 ws) (sym of.0) (rises_more (λ (k : ℕ). k) 0 1 (writers_of traces e.0) (omega arith) (writers_rise 1 traces e.0)),
      subst (λ (ws : List ℕ). AreWithin (length traces) ws) (sym of.0) (all_within traces e.0 (writers_of traces e.0) (λ w h. h)),
    ) (all_rise_within traces es of.1)

-- ---- each pair is one of the traces

module _ (traces : List TraceView) where
  -- two commits, of which the first has to stand before the second
  pub record IsTold (i j : ℕ) : Type 0 where
    pub first : IsUpTo (length traces) i
    pub second : IsUpTo (length traces) j
    pub depends : trace_depends traces i j ≡ true

  abbrev pub Each : Pairs → Type 0
  Each [] = Unit {0}
  Each (p ∷ ps) = IsTold p.0 p.1 × Each ps

  each-append : (ps qs : Pairs) → Each ps → Each qs → Each (ps ++ qs)
  each-append [] qs first second = second
  each-append (p ∷ ps) qs first second = (first.0, each-append ps qs first.1 second)

  pub each_told : (ps : Pairs) (i j : ℕ) → Each ps → is_pair_among ps i j ≡ true → IsTold i j
  each_told [] i j each h = absurd (cc)
  each_told (p ∷ ps) i j each h = go (or_cases ((i == p.0) && (j == p.1)) (is_pair_among ps i j) h) (each_told ps i j each.1)
    where
      go : (((i == p.0) && (j == p.1)) ≡ true) ⊎ (is_pair_among ps i j ≡ true) → (is_pair_among ps i j ≡ true → IsTold i j) → IsTold i j
      go (inl here) rest =
          let a : i ≡ p.0 = eqb-true i p.0 (and_parts (i == p.0) (j == p.1) here).0 in
          let b : j ≡ p.1 = eqb-true j p.1 (and_parts (i == p.0) (j == p.1) here).1 in
          subst (λ x. IsTold x j) (sym a) (subst (λ y. IsTold p.0 y) (sym b) each.0)
      go (inr behind) rest = rest behind

  -- ---- writers

  write_after : (c : Cell) (i j : ℕ) → i < j → IsWriter traces c i → IsWriter traces c j → IsTold i j
  write_after c i j order wi wj = record {
    first = writer_upto traces c i wi;
    second = writer_upto traces c j wj;
    depends =
        and_from (not (i == j)) _ (apart_by_lt i j order)
        (or_left (changes_again traces i j) _
        (and_from (nat_lt i j) _ (lt-ltb i j order)
        (any_at (changed_at (trace_at traces j)) (trace_at traces i).changed c (writer_changed traces c i wi) (writer_changed traces c j wj))));
  }

  each_successive : (c : Cell) (w : ℕ) (ws : List ℕ) → IsWriter traces c w → ((v : ℕ) → is_one_of ws v ≡ true → IsWriter traces c v) → RiseFrom (w + 1) ws → Each (successive_from w ws)
  each_successive c w [] here are rise = tt
  each_successive c w (v ∷ ws) here are rise =
      let next = are v (or_left (v == v) (is_one_of ws v) (eq-eqb v v refl)) in
      (write_after c w v (omega (arith, rise.0)) here next, each_successive c v ws next (λ u h. are u (or_right (v == u) (is_one_of ws u) h)) rise.1)

  each_successive_pairs : (c : Cell) (ws : List ℕ) → ((v : ℕ) → is_one_of ws v ≡ true → IsWriter traces c v) → RiseFrom 1 ws → Each (successive_pairs ws)
  each_successive_pairs c [] are rise = tt
  each_successive_pairs c (w ∷ ws) are rise =
      each_successive c w ws (are w (or_left (w == w) (is_one_of ws w) (eq-eqb w w refl))) (λ u h. are u (or_right (w == u) (is_one_of ws u) h)) rise.1

  each_writers : (m : Cells (List ℕ)) → OfWriters traces m → Each (writers_pairs m)
  each_writers [] of = tt
  each_writers (e ∷ es) of =
      each-append (successive_pairs e.1) (writers_pairs es)
      (subst (λ (ws : List ℕ). Each (successive_pairs ws)) (sym of.0) (each_successive_pairs e.0 (writers_of traces e.0) (λ v h. h) (writers_rise 1 traces e.0)))
      (each_writers es of.1)

  -- ---- readers

  module _ (early : (r : ℕ) → IsUpTo (length traces) r → (trace_at traces r).start < r) (r : ℕ) (within : IsUpTo (length traces) r) where
    abbrev start : ℕ
    start = (trace_at traces r).start

    abbrev Looked : Cell → Type 0
    Looked c = looked_at (trace_at traces r) c ≡ true

    each_seen : (c : Cell) (o : Option ℕ) → Looked c → IfSome o (λ w. IsWriter traces c w × (w ≤ start)) → Each (seen_pairs r o)
    each_seen c None looked is = tt
    each_seen c (Some w) looked is =
        let low : w < r = omega (arith, is.1, early r within) in (
          record {
            first = writer_upto traces c w is.0;
            second = within;
            depends =
                and_from (not (w == r)) _ (apart_by_lt w r low)
                (or_right (changes_again traces w r) _
                (or_left (sees_change traces w r) _
                (and_from (nat_le w start) _ (le-leb w start is.1)
                (any_at (looked_at (trace_at traces r)) (trace_at traces w).changed c (writer_changed traces c w is.0) looked))));
          },
          tt,
        )

    each_missed : (c : Cell) (o : Option ℕ) → Looked c → IfSome o (λ w. IsWriter traces c w × (start < w)) → Each (missed_pairs r o)
    each_missed c None looked is = tt
    each_missed c (Some w) looked is = go (w == r) refl
      where
        go : (b : Bool) → (w == r) ≡ b → Each (if b then [] else (r, w) ∷ [])
        go true same = tt
        go false apart = (
          record {
            first = within;
            second = writer_upto traces c w is.0;
            depends =
                and_from (not (r == w)) _ (ap not (ne_eqb r w (λ same. true≢false (sym (eq-eqb r r refl) ∙ ap (λ x. x == r) same ∙ apart))))
                (or_right (changes_again traces r w) _
                (or_right (sees_change traces r w) _
                (and_from (nat_lt start w) _ (lt-ltb start w is.1)
                (any_at (looked_at (trace_at traces r)) (trace_at traces w).changed c (writer_changed traces c w is.0) looked))));
          },
          tt,
        )

    each_reader : (c : Cell) → Looked c → Each (reader_pairs r start (writers_of traces c))
    each_reader c looked =
        each-append (seen_pairs r (last_seen start (writers_of traces c))) (missed_pairs r (first_missed start (writers_of traces c)))
        (each_seen c (last_seen start (writers_of traces c)) looked (seen_is start (writers_of traces c)))
        (each_missed c (first_missed start (writers_of traces c)) looked (missed_is start (writers_of traces c)))

    each_region : (region : Region) (own : List Cell) (m : Cells (List ℕ)) → OfWriters traces m → ((c : Cell) → takes_in (sight.Range region own) c ≡ true → Looked c) →
        Each (region_pairs r start region own m)
    each_region region own [] of takes = tt
    each_region region own (e ∷ es) of takes =
        each-append (if takes_in (sight.Range region own) e.0 then reader_pairs r start e.1 else []) (region_pairs r start region own es)
        (go (takes_in (sight.Range region own) e.0) refl) (each_region region own es of.1 takes)
      where
        go : (b : Bool) → takes_in (sight.Range region own) e.0 ≡ b → Each (if b then reader_pairs r start e.1 else [])
        go true taken = subst (λ (ws : List ℕ). Each (reader_pairs r start ws)) (sym of.0) (each_reader e.0 (takes e.0 taken))
        go false taken = tt

    each_sight : (m : Cells (List ℕ)) (s : Sight) → OfWriters traces m → HasWriters traces m → ((c : Cell) → takes_in s c ≡ true → Looked c) → Each (sight_pairs r start m s)
    each_sight m (sight.One cell) of has takes = subst (λ (ws : List ℕ). Each (reader_pairs r start ws)) (sym (has cell)) (each_reader cell (takes cell (same-itself cell)))
    each_sight m (sight.Range region own) of has takes = each_region region own m of takes

    each_sights : (m : Cells (List ℕ)) (ss : List Sight) → OfWriters traces m → HasWriters traces m → ((c : Cell) → list_any (λ s. takes_in s c) ss ≡ true → Looked c) →
        Each (sights_pairs r start m ss)
    each_sights m [] of has takes = tt
    each_sights m (s ∷ ss) of has takes =
        each-append (sight_pairs r start m s) (sights_pairs r start m ss)
        (each_sight m s of has (λ c h. takes c (or_left (takes_in s c) (list_any (λ s. takes_in s c) ss) h)))
        (each_sights m ss of has (λ c h. takes c (or_right (takes_in s c) (list_any (λ s. takes_in s c) ss) h)))

  each_readers : (m : Cells (List ℕ)) (k : ℕ) (ts : List TraceView) →
      ((i : ℕ) (t : TraceView) → slice_get ts i ≡ Some t → Each (sights_pairs (k + i) t.start m t.looked)) → Each (readers_pairs m k ts)
  each_readers m k [] each = tt
  each_readers m k (t ∷ ts) each =
      let here : k + 0 ≡ k = omega arith in
      each-append (sights_pairs k t.start m t.looked) (readers_pairs m (k + 1) ts) (subst (λ n. Each (sights_pairs n t.start m t.looked)) here (each 0 t refl))
      (each_readers m (k + 1) ts (λ i u found. let next : k + suc i ≡ k + 1 + i = omega arith in subst (λ n. Each (sights_pairs n u.start m u.looked)) next (each (suc i) u found)))

  -- ---- the trace of a number

  pub record IsTraceOf (r : ℕ) : Type 0 where
    pub place : ℕ
    pub trace : TraceView
    pub is : r ≡ suc place
    pub found : slice_get traces place ≡ Some trace

  pub trace_of_upto : (r : ℕ) → IsUpTo (length traces) r → IsTraceOf r
  trace_of_upto zero within = absurd (omega (arith, within.0))
  trace_of_upto (suc i) within = go (slice_get_cases traces i).1
    where
      go : ((t : TraceView) × (i < length traces) × (slice_get traces i ≡ Some t) × (get_or traces i t ≡ t)) ⊎ ((length traces ≤ i) × (slice_get traces i ≡ None)) → IsTraceOf (suc i)
      go (inl s) = record { place = i; trace = s.0; is = refl; found = s.2 }
      go (inr s) = absurd (omega (arith, s.0, within.1))

  upto_by_place : (i : ℕ) (t : TraceView) → slice_get traces i ≡ Some t → IsUpTo (length traces) (1 + i)
  upto_by_place i t found = go (slice_get_cases traces i).1
    where
      go : ((u : TraceView) × (i < length traces) × (slice_get traces i ≡ Some u) × (get_or traces i u ≡ u)) ⊎ ((length traces ≤ i) × (slice_get traces i ≡ None)) → IsUpTo (length traces) (1 + i)
      go (inl s) = (omega arith, omega (arith, s.1))
      go (inr s) = absurd (let none = s.1 in cc)

  pub each_reduced : (m : Cells (List ℕ)) → OfWriters traces m → HasWriters traces m → SeesEarlier traces → Each (writers_pairs m ++ readers_pairs m 1 traces)
  each_reduced m of has sees =
      each-append (writers_pairs m) (readers_pairs m 1 traces) (each_writers m of)
      (each_readers m 1 traces (λ i t found.
      let within = upto_by_place i t found in
      let next : 1 + i ≡ suc i = omega arith in
      let same : trace_at traces (1 + i) ≡ t = ap (trace_at traces) next ∙ ap (λ (o : Option TraceView). unwrap_or o no_trace) found in
      subst (λ (u : TraceView). Each (sights_pairs (1 + i) u.start m u.looked)) same
      (each_sights (saw_earlier traces sees) (1 + i) within m (trace_at traces (1 + i)).looked of has (λ c h. h))))
