-- What the traces say follows from the few pairs.
use Rattle.std.proofs.Common.{◌≡◌, ◌∙◌, ◌==◌, ◌⊎◌, inl, inr, ℕ, zero, suc, ◌+◌, ◌<◌, ◌≤◌, nat_lt, Bool, true, false, cond, ◌&&◌, ◌||◌, not, if◌then◌else◌, List, [], ◌∷◌, ◌++◌, length, refl, ap, sym, subst, arith}
use Rattle.std.specs.Prelude.{nat_le, Option, Some, slice_get, IfSome, unwrap_or}
use Rattle.std.specs.List.{list_any}
use Rattle.std.proofs.lemmas.Bool.{and_from, and_parts, or_cases, or_left, or_right, eq-eqb, eqb-true, leb-true, ltb-true, ne_eqb}
use Rattle.prog_tree.specs.declared.cell.Cell.{Cell}
use Rattle.prog_tree.specs.declared.cell.Region.{Region}
use Rattle.prog_tree.specs.Table.{Cells, at_cell, is_same_cell}
use Rattle.prog_tree.proofs.TableStates.{cell_is}
use Rattle.serial_orders.specs.Orders.{is_one_of, IsUpTo, IsReduced, IsBefore, step, steps}
use Rattle.serial_orders.specs.Precedence.{precedes}
use Rattle.serial_orders.specs.Reduced.{writers_of, numbers_at, HasWriters, RiseFrom, Pairs, is_pair_among, AddsPairs, successive_from, successive_pairs, writers_pairs, last_seen, first_missed, seen_pairs, missed_pairs, reader_pairs, region_pairs, sight_pairs, sights_pairs, readers_pairs}
use Rattle.serial_orders.specs.TraceView.{TraceView}
use Rattle.serial_orders.specs.Traces.{takes_in, looked_at, changed_at, trace_at, SeesEarlier, changes_again, sees_change, misses_change, trace_depends, no_trace}
use Rattle.serial_orders.specs.declared.trace.Sight.{Sight}
use Rattle.serial_orders.specs.declared.trace.Sight.TheVariants as sight
use Rattle.serial_orders.proofs.PairLaws.{among-append, both_pairs}
use Rattle.serial_orders.proofs.RiseLaws.{at_least, writers_rise, IsWriter, changed_writer, seen_is, missed_is, seen_from, SeenFrom, missed_to, MissedTo}
use Rattle.serial_orders.proofs.TracePairs.{OfWriters, Each, each_told, IsTraceOf, trace_of_upto, each_reduced}
use Rattle.serial_orders.proofs.TestLaws.{lt_by, ne_told, any_some}

-- ---- pairs among others

among_first : (ps qs : Pairs) (i j : ℕ) → is_pair_among ps i j ≡ true → is_pair_among (ps ++ qs) i j ≡ true
among_first ps qs i j h = among-append ps qs i j ∙ or_left (is_pair_among ps i j) (is_pair_among qs i j) h

among_second : (ps qs : Pairs) (i j : ℕ) → is_pair_among qs i j ≡ true → is_pair_among (ps ++ qs) i j ≡ true
among_second ps qs i j h = among-append ps qs i j ∙ or_right (is_pair_among ps i j) (is_pair_among qs i j) h

among_itself : (i j : ℕ) (ps : Pairs) → is_pair_among ((i, j) ∷ ps) i j ≡ true
among_itself i j ps = or_left ((i == i) && (j == j)) (is_pair_among ps i j) (and_from (i == i) (j == j) (eq-eqb i i refl) (eq-eqb j j refl))

-- the pairs of the first are pairs of the second
abbrev pub AreAmong : Pairs → (ℕ → ℕ → Bool) → Type 0
AreAmong ps before = (i j : ℕ) → is_pair_among ps i j ≡ true → before i j ≡ true

-- ---- steps

module _ (before : ℕ → ℕ → Bool) where
  pub before_trans : (i j k : ℕ) → IsBefore before i j → IsBefore before j k → IsBefore before i k
  before_trans _ _ k (step i j h) rest = steps i j k h rest
  before_trans _ _ k (steps i m j h more) rest = steps i m k h (before_trans m j k more rest)

  successive_reach : (w : ℕ) (ws : List ℕ) (b : ℕ) → AreAmong (successive_from w ws) before → is_one_of ws b ≡ true → IsBefore before w b
  successive_reach w [] b are h = absurd (cc)
  successive_reach w (v ∷ ws) b are h = go (or_cases (v == b) (is_one_of ws b) h) (successive_reach v ws b (λ i j k. are i j (or_right ((i == w) && (j == v)) (is_pair_among (successive_from v ws) i j) k)))
    where
      first : before w v ≡ true
      first = are w v (among_itself w v (successive_from v ws))

      go : ((v == b) ≡ true) ⊎ (is_one_of ws b ≡ true) → (is_one_of ws b ≡ true → IsBefore before v b) → IsBefore before w b
      go (inl same) rest = subst (λ n. IsBefore before w n) (eqb-true v b same) (step w v first)
      go (inr behind) rest = steps w v b first (rest behind)

  successive_more : (w : ℕ) (ws : List ℕ) (i j : ℕ) → is_pair_among (successive_pairs ws) i j ≡ true → is_pair_among (successive_from w ws) i j ≡ true
  successive_more w [] i j h = absurd (cc)
  successive_more w (v ∷ ws) i j h = or_right ((i == w) && (j == v)) (is_pair_among (successive_from v ws) i j) h

  -- of numbers that rise, with each before the next, a lesser one is before a greater
  pub chain : (n : ℕ) (ws : List ℕ) (a b : ℕ) → RiseFrom n ws → AreAmong (successive_pairs ws) before → is_one_of ws a ≡ true → is_one_of ws b ≡ true → a < b → IsBefore before a b
  chain n [] a b rise are ha hb order = absurd (cc)
  chain n (w ∷ ws) a b rise are ha hb order =
      go (or_cases (w == a) (is_one_of ws a) ha) (or_cases (w == b) (is_one_of ws b) hb)
      (λ ka kb. chain (w + 1) ws a b rise.1 (λ i j k. are i j (successive_more w ws i j k)) ka kb order)
    where
      go : ((w == a) ≡ true) ⊎ (is_one_of ws a ≡ true) → ((w == b) ≡ true) ⊎ (is_one_of ws b ≡ true) →
          (is_one_of ws a ≡ true → is_one_of ws b ≡ true → IsBefore before a b) → IsBefore before a b
      go (inl sa) (inl sb) rest = absurd (let x : w ≡ a = eqb-true w a sa in let y : w ≡ b = eqb-true w b sb in omega (arith, x, y, order))
      go (inl sa) (inr kb) rest = subst (λ n. IsBefore before n b) (eqb-true w a sa) (successive_reach w ws b are kb)
      go (inr ka) (inl sb) rest = absurd (let up : w + 1 ≤ a = at_least (w + 1) ws a rise.1 ka in let y : w ≡ b = eqb-true w b sb in omega (arith, up, y, order))
      go (inr ka) (inr kb) rest = rest ka kb

-- ---- where the pairs of a cell stand

successive_among : (m : Cells (List ℕ)) (c : Cell) (i j : ℕ) → is_pair_among (successive_pairs (numbers_at m c)) i j ≡ true → is_pair_among (writers_pairs m) i j ≡ true
successive_among [] c i j h = absurd (cc)
successive_among (e ∷ es) c i j h = go (is_same_cell c e.0) h (successive_among es c i j)
  where
    go : (b : Bool) → is_pair_among (successive_pairs (unwrap_or (cond b (Some e.1) (at_cell es c)) [])) i j ≡ true → (is_pair_among (successive_pairs (numbers_at es c)) i j ≡ true → is_pair_among (writers_pairs es) i j ≡ true) →
        is_pair_among (successive_pairs e.1 ++ writers_pairs es) i j ≡ true
    go true here rest = among_first (successive_pairs e.1) (writers_pairs es) i j here
    go false behind rest = among_second (successive_pairs e.1) (writers_pairs es) i j (rest behind)

module _ (r s : ℕ) (c : Cell) (i j : ℕ) where
  region_among : (region : Region) (own : List Cell) (m : Cells (List ℕ)) → takes_in (sight.Range region own) c ≡ true → is_pair_among (reader_pairs r s (numbers_at m c)) i j ≡ true →
      is_pair_among (region_pairs r s region own m) i j ≡ true
  region_among region own [] taken h = absurd (cc)
  region_among region own (e ∷ es) taken h = go (is_same_cell c e.0) refl h (region_among region own es taken)
    where
      ps : Bool → Pairs
      ps b = if b then reader_pairs r s e.1 else []

      go : (b : Bool) → is_same_cell c e.0 ≡ b → is_pair_among (reader_pairs r s (unwrap_or (cond b (Some e.1) (at_cell es c)) [])) i j ≡ true →
          (is_pair_among (reader_pairs r s (numbers_at es c)) i j ≡ true → is_pair_among (region_pairs r s region own es) i j ≡ true) →
          is_pair_among ((if takes_in (sight.Range region own) e.0 then reader_pairs r s e.1 else []) ++ region_pairs r s region own es) i j ≡ true
      go true same here rest =
          let it : takes_in (sight.Range region own) e.0 ≡ true = subst (λ (x : Cell). takes_in (sight.Range region own) x ≡ true) (cell_is c e.0 same) taken in
          among_first (if takes_in (sight.Range region own) e.0 then reader_pairs r s e.1 else []) (region_pairs r s region own es) i j
          (ap (λ b. is_pair_among (if b then reader_pairs r s e.1 else []) i j) it ∙ here)
      go false apart behind rest = among_second (if takes_in (sight.Range region own) e.0 then reader_pairs r s e.1 else []) (region_pairs r s region own es) i j (rest behind)

  sight_among : (m : Cells (List ℕ)) (t : Sight) → takes_in t c ≡ true → is_pair_among (reader_pairs r s (numbers_at m c)) i j ≡ true → is_pair_among (sight_pairs r s m t) i j ≡ true
  sight_among m (sight.One cell) taken h = subst (λ (x : Cell). is_pair_among (reader_pairs r s (numbers_at m x)) i j ≡ true) (sym (cell_is cell c taken)) h
  sight_among m (sight.Range region own) taken h = region_among region own m taken h

  sights_among : (m : Cells (List ℕ)) (ts : List Sight) → list_any (λ t. takes_in t c) ts ≡ true → is_pair_among (reader_pairs r s (numbers_at m c)) i j ≡ true →
      is_pair_among (sights_pairs r s m ts) i j ≡ true
  sights_among m [] taken h = absurd (cc)
  sights_among m (t ∷ ts) taken h = go (or_cases (takes_in t c) (list_any (λ t. takes_in t c) ts) taken) (λ later. sights_among m ts later h)
    where
      go : (takes_in t c ≡ true) ⊎ (list_any (λ t. takes_in t c) ts ≡ true) → (list_any (λ t. takes_in t c) ts ≡ true → is_pair_among (sights_pairs r s m ts) i j ≡ true) →
          is_pair_among (sight_pairs r s m t ++ sights_pairs r s m ts) i j ≡ true
      go (inl here) rest = among_first (sight_pairs r s m t) (sights_pairs r s m ts) i j (sight_among m t here h)
      go (inr behind) rest = among_second (sight_pairs r s m t) (sights_pairs r s m ts) i j (rest behind)

readers_among : (m : Cells (List ℕ)) (k : ℕ) (ts : List TraceView) (n : ℕ) (t : TraceView) (i j : ℕ) → slice_get ts n ≡ Some t → is_pair_among (sights_pairs (k + n) t.start m t.looked) i j ≡ true →
    is_pair_among (readers_pairs m k ts) i j ≡ true
readers_among m k [] n t i j found h = absurd (cc)
readers_among m k (u ∷ ts) zero t i j found h =
    let is : u ≡ t = cc in
    let here : k + 0 ≡ k = omega arith in
    among_first (sights_pairs k u.start m u.looked) (readers_pairs m (k + 1) ts) i j
    (subst (λ (x : TraceView). is_pair_among (sights_pairs k x.start m x.looked) i j ≡ true) (sym is) (subst (λ x. is_pair_among (sights_pairs x t.start m t.looked) i j ≡ true) here h))
readers_among m k (u ∷ ts) (suc n) t i j found h =
    let next : k + suc n ≡ k + 1 + n = omega arith in
    among_second (sights_pairs k u.start m u.looked) (readers_pairs m (k + 1) ts) i j
    (readers_among m (k + 1) ts n t i j found (subst (λ x. is_pair_among (sights_pairs x t.start m t.looked) i j ≡ true) next h))

-- ---- all that the traces say

module _ (traces : List TraceView) (m : Cells (List ℕ)) (has : HasWriters traces m) (before : ℕ → ℕ → Bool) (are : AreAmong (writers_pairs m ++ readers_pairs m 1 traces) before) where
  abbrev starts : ℕ → ℕ
  starts r = (trace_at traces r).start

  writers_chain : (c : Cell) (a b : ℕ) → IsWriter traces c a → IsWriter traces c b → a < b → IsBefore before a b
  writers_chain c a b wa wb order =
      chain before 1 (writers_of traces c) a b (writers_rise 1 traces c)
      (λ i j h. are i j (among_first (writers_pairs m) (readers_pairs m 1 traces) i j (successive_among m c i j (subst (λ (ws : List ℕ). is_pair_among (successive_pairs ws) i j ≡ true) (sym (has c)) h)))) wa wb order

  -- what a look says stands among the pairs
  reader_stands : (c : Cell) (r i j : ℕ) → IsUpTo (length traces) r → looked_at (trace_at traces r) c ≡ true → is_pair_among (reader_pairs r (starts r) (writers_of traces c)) i j ≡ true → before i j ≡ true
  reader_stands c r i j within looked h = go (trace_of_upto traces r within)
    where
      go : IsTraceOf traces r → before i j ≡ true
      go t =
          let next : suc t.place ≡ 1 + t.place = omega arith in
          let same : trace_at traces r ≡ t.trace = ap (trace_at traces) t.is ∙ ap (λ (o : Option TraceView). unwrap_or o no_trace) t.found in
          let pairs : is_pair_among (reader_pairs r t.trace.start (numbers_at m c)) i j ≡ true =
          subst (λ (u : TraceView). is_pair_among (reader_pairs r u.start (numbers_at m c)) i j ≡ true) same
          (subst (λ (ws : List ℕ). is_pair_among (reader_pairs r (starts r) ws) i j ≡ true) (sym (has c)) h) in
          let seen : looked_at t.trace c ≡ true = subst (λ (u : TraceView). looked_at u c ≡ true) same looked in
          let stands = sights_among r t.trace.start c i j m t.trace.looked seen pairs in
          are i j (among_second (writers_pairs m) (readers_pairs m 1 traces) i j
          (readers_among m 1 traces t.place t.trace i j t.found (subst (λ n. is_pair_among (sights_pairs n t.trace.start m t.trace.looked) i j ≡ true) (t.is ∙ next) stands)))

  -- a writer is before itself or a later writer's followers
  by_writers : (c : Cell) (i w r : ℕ) → IsWriter traces c i → IsWriter traces c w → i ≤ w → before w r ≡ true → IsBefore before i r
  by_writers c i w r wi ww up last = go (i == w) refl
    where
      go : (b : Bool) → (i == w) ≡ b → IsBefore before i r
      go true same = subst (λ n. IsBefore before n r) (sym (eqb-true i w same)) (step w r last)
      go false apart = before_trans before i w r (writers_chain c i w wi ww (lt_by i w up apart)) (step w r last)

  sees_reaches : (c : Cell) (i j : ℕ) → IsUpTo (length traces) j → IsWriter traces c i → looked_at (trace_at traces j) c ≡ true → i ≤ starts j → IsBefore before i j
  sees_reaches c i j within wi looked low = go (seen_from 1 (starts j) (writers_of traces c) i (writers_rise 1 traces c) wi low)
    where
      go : SeenFrom (starts j) (writers_of traces c) i → IsBefore before i j
      go found =
          let ws = writers_of traces c in
          let w = found.last in
          let writer : (is_one_of ws w ≡ true) × (w ≤ starts j) =
          subst (λ (o : Option ℕ). IfSome o (λ w. (is_one_of ws w ≡ true) × (w ≤ starts j))) found.is (seen_is (starts j) ws) in
          let pair : is_pair_among (reader_pairs j (starts j) ws) w j ≡ true =
          among_first (seen_pairs j (last_seen (starts j) ws)) (missed_pairs j (first_missed (starts j) ws)) w j
          (subst (λ (o : Option ℕ). is_pair_among (seen_pairs j o) w j ≡ true) (sym found.is) (among_itself w j [])) in
          by_writers c i w j wi writer.0 found.from (reader_stands c j w j within looked pair)

  misses_reaches : (c : Cell) (i j : ℕ) → IsUpTo (length traces) i → IsWriter traces c j → looked_at (trace_at traces i) c ≡ true → starts i < j → (i ≡ j → ⊥) → IsBefore before i j
  misses_reaches c i j within wj looked up apart = go (missed_to 1 (starts i) (writers_of traces c) j (writers_rise 1 traces c) wj up)
    where
      ws : List ℕ
      ws = writers_of traces c

      go : MissedTo (starts i) (writers_of traces c) j → IsBefore before i j
      go found = by_first (found.first == i) refl (found.first == j) refl
        where
          writer : (is_one_of (writers_of traces c) found.first ≡ true) × (starts i < found.first)
          writer = subst (λ (o : Option ℕ). IfSome o (λ w. (is_one_of (writers_of traces c) w ≡ true) × (starts i < w))) found.is (missed_is (starts i) (writers_of traces c))

          pair : (found.first == i) ≡ false → before i found.first ≡ true
          pair other =
              reader_stands c i i found.first within looked
              (among_second (seen_pairs i (last_seen (starts i) (writers_of traces c))) (missed_pairs i (first_missed (starts i) (writers_of traces c))) i found.first
              (subst (λ (o : Option ℕ). is_pair_among (missed_pairs i o) i found.first ≡ true) (sym found.is)
              (ap (λ b. is_pair_among (if b then [] else (i, found.first) ∷ []) i found.first) other ∙ among_itself i found.first [])))

          by_first : (b : Bool) → (found.first == i) ≡ b → (d : Bool) → (found.first == j) ≡ d → IsBefore before i j
          by_first true same d is =
              let eq : found.first ≡ i = eqb-true found.first i same in
              writers_chain c i j (subst (λ n. IsWriter traces c n) eq writer.0) wj (lt_by i j (omega (arith, eq, found.to)) (ne_eqb i j apart))
          by_first false other true last = subst (λ n. IsBefore before i n) (eqb-true found.first j last) (step i found.first (pair other))
          by_first false other false behind = steps i found.first j (pair other) (writers_chain c found.first j writer.0 wj (lt_by found.first j found.to behind))

  pub told_reaches : (i j : ℕ) → IsUpTo (length traces) i → IsUpTo (length traces) j → trace_depends traces i j ≡ true → IsBefore before i j
  told_reaches i j wi wj told =
      by_kind (or_cases (changes_again traces i j) (sees_change traces i j || misses_change traces i j) (and_parts (not (i == j)) (changes_again traces i j || (sees_change traces i j || misses_change traces i j)) told).1)
    where
      apart : i ≡ j → ⊥
      apart = ne_told i j (and_parts (not (i == j)) (changes_again traces i j || (sees_change traces i j || misses_change traces i j)) told).0

      by_write : changes_again traces i j ≡ true → IsBefore before i j
      by_write h =
          let found = any_some (changed_at (trace_at traces j)) (trace_at traces i).changed (and_parts (nat_lt i j) _ h).1 in
          writers_chain found.cell i j (changed_writer traces found.cell i found.among) (changed_writer traces found.cell j found.passes) (ltb-true i j (and_parts (nat_lt i j) _ h).0)

      by_look : (sees_change traces i j ≡ true) ⊎ (misses_change traces i j ≡ true) → IsBefore before i j
      by_look (inl h) =
          let found = any_some (looked_at (trace_at traces j)) (trace_at traces i).changed (and_parts (nat_le i (starts j)) _ h).1 in
          sees_reaches found.cell i j wj (changed_writer traces found.cell i found.among) found.passes (leb-true i (starts j) (and_parts (nat_le i (starts j)) _ h).0)
      by_look (inr h) =
          let found = any_some (looked_at (trace_at traces i)) (trace_at traces j).changed (and_parts (nat_lt (starts i) j) _ h).1 in
          misses_reaches found.cell i j wi (changed_writer traces found.cell j found.among) found.passes (ltb-true (starts i) j (and_parts (nat_lt (starts i) j) _ h).0) apart

      by_kind : (changes_again traces i j ≡ true) ⊎ ((sees_change traces i j || misses_change traces i j) ≡ true) → IsBefore before i j
      by_kind (inl h) = by_write h
      by_kind (inr h) = by_look (or_cases (sees_change traces i j) (misses_change traces i j) h)

-- ---- both

pub is_reduced :
    (traces : List TraceView) (m : Cells (List ℕ)) (none chained all : List (List ℕ)) → OfWriters traces m → HasWriters traces m → SeesEarlier traces →
    ((i j : ℕ) → precedes none i j ≡ false) → AddsPairs (writers_pairs m) none chained → AddsPairs (readers_pairs m 1 traces) chained all →
    IsReduced (length traces) (precedes all) (trace_depends traces)
is_reduced traces m none chained all of has sees free first second = record {
  within = λ i j h. (each_told traces (writers_pairs m ++ readers_pairs m 1 traces) i j each (sym (just i j) ∙ h)).second;
  sound = λ i j wi wj h. (each_told traces (writers_pairs m ++ readers_pairs m 1 traces) i j each (sym (just i j) ∙ h)).depends;
  whole = λ i j wi wj h. told_reaches traces m has (precedes all) (λ a b k. just a b ∙ k) i j wi wj h;
}
  where
    each : Each traces (writers_pairs m ++ readers_pairs m 1 traces)
    each = each_reduced traces m of has sees

    just : (i j : ℕ) → precedes all i j ≡ is_pair_among (writers_pairs m ++ readers_pairs m 1 traces) i j
    just i j =
        (both_pairs (writers_pairs m) (readers_pairs m 1 traces) none chained all first second).pairs i j
        ∙ ap (λ b. b || is_pair_among (writers_pairs m ++ readers_pairs m 1 traces) i j) (free i j)
