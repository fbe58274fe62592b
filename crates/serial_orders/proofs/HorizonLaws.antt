-- Numbers that are raised place by place, and how far commits stand from those that have to stand before them.
use Rattle.std.proofs.Common.{◌≡◌, ◌∙◌, ◌==◌, ◌⊎◌, inl, inr, ℕ, zero, suc, ◌+◌, ◌<◌, ◌≤◌, max, nat_lt, true, false, ◌||◌, not, List, [], ◌∷◌, ◌++◌, length, get_or, length-append, length-set, slice_set, refl, ap, sym, subst, arith}
use Rattle.std.specs.Prelude.{◌≢◌, nat_le, slice_index, slice_get, Some, None, Option, unwrap_or}
use Rattle.std.proofs.lemmas.Bool.{and_parts, or_cases, cases_lt, leb-true, ltb-true}
use Rattle.std.proofs.lemmas.Bool.Decides.{eqb_tells}
use Rattle.std.proofs.lemmas.List.{get_or_past, get_or-set_same, get_or-set_other}
use Rattle.std.proofs.lemmas.Option.{slice_get_cases}
use Rattle.serial_orders.specs.Horizons.{AreHorizons, AreLastBegun, AreRaised}
use Rattle.serial_orders.specs.Orders.{IsUpTo}
use Rattle.serial_orders.specs.TraceView.{TraceView}
use Rattle.serial_orders.specs.Traces.{trace_at, trace_depends, changes_again, sees_change, misses_change, SeesEarlier, no_trace}

-- ---- raised numbers

-- a number is no greater than a place, or is one of the numbers before it
abbrev pub IsLowOrBefore : List ℕ → (place number : ℕ) → Type 0
IsLowOrBefore numbers place number = (number ≤ place) ⊎ ((m : ℕ) × (m < place) × (number ≡ slice_index numbers m))

-- a number is a place, or one of the numbers there and before
abbrev pub IsPlaceOrOne : List ℕ → (place number : ℕ) → Type 0
IsPlaceOrOne numbers place number = (number ≡ place) ⊎ ((m : ℕ) × (m ≤ place) × (number ≡ slice_index numbers m))

-- so many numbers are raised, and the greatest so far is known
pub record AreRaisedUpTo (numbers raised : List ℕ) (place greatest : ℕ) : Type 0 where
  pub long : length raised ≡ place
  pub own : (n : ℕ) → n < place → n ≤ slice_index raised n
  pub above : (m n : ℕ) → m ≤ n → n < place → slice_index numbers m ≤ slice_index raised n
  pub one : (n : ℕ) → n < place → IsPlaceOrOne numbers n (slice_index raised n)
  pub seen : (m : ℕ) → m < place → slice_index numbers m ≤ greatest
  pub known : IsLowOrBefore numbers place greatest

-- a read within a list with one more behind it
pub data ReadsMore (xs : List ℕ) (x n read : ℕ) : Type 0 where
  earlier : n < length xs → read ≡ slice_index xs n → ReadsMore xs x n read
  at_end : n ≡ length xs → read ≡ x → ReadsMore xs x n read

pub reads_more : (xs : List ℕ) (x n : ℕ) → n < length xs + 1 → ReadsMore xs x n (slice_index (xs ++ x ∷ []) n)
reads_more [] x zero below = at_end refl refl
reads_more [] x (suc n) below = absurd (omega (arith, below))
reads_more (y ∷ ys) x zero below = earlier (omega arith) refl
reads_more (y ∷ ys) x (suc n) below = go (reads_more ys x n (omega (arith, below)))
  where
    go : ReadsMore ys x n (slice_index (ys ++ x ∷ []) n) → ReadsMore (y ∷ ys) x (suc n) (slice_index (ys ++ x ∷ []) n)
    go (earlier h e) = earlier (omega (arith, h)) e
    go (at_end h e) = at_end (omega (arith, h)) e

module _ (numbers raised : List ℕ) (place greatest more : ℕ) (r : AreRaisedUpTo numbers raised place greatest) (most : more ≡ max (max place greatest) (slice_index numbers place)) where
  -- the greatest is the number at the place, one before it, or the place
  abbrev IsFound : Type 0
  IsFound = (more ≡ slice_index numbers place) ⊎ (((m : ℕ) × (m < place) × (more ≡ slice_index numbers m)) ⊎ (more ≡ place))

  which : IsFound
  which = first (cases_lt (max place greatest) (slice_index numbers place))
    where
      third : place < greatest → more ≡ greatest → IsLowOrBefore numbers place greatest → IsFound
      third up is (inl low) = absurd (omega (arith, up, low))
      third up is (inr b) = inr (inl (b.0, b.1, is ∙ b.2))

      second : slice_index numbers place ≤ max place greatest → (place < greatest) ⊎ (greatest ≤ place) → IsFound
      second low (inl up) = third up (omega (arith, most, low, up)) r.known
      second low (inr down) = inr (inr (omega (arith, most, low, down)))

      first : (max place greatest < slice_index numbers place) ⊎ (slice_index numbers place ≤ max place greatest) → IsFound
      first (inl up) = inl (omega (arith, most, up))
      first (inr low) = second low (cases_lt place greatest)

  -- one more number is raised
  pub raised_more : AreRaisedUpTo numbers (raised ++ more ∷ []) (place + 1) more
  raised_more = record {
    long = let l = r.long in omega (arith, length-append raised (more ∷ []));
    own = λ n below. own n (reads n below);
    above = λ m n low below. above m n low (reads n below);
    one = λ n below. one n (reads n below);
    seen = λ m below. seen m (cases_lt m place) below;
    known = known which;
  }
    where
      reads : (n : ℕ) → n < place + 1 → ReadsMore raised more n (slice_index (raised ++ more ∷ []) n)
      reads n below = reads_more raised more n (omega (arith, r.long, below))

      seen : (m : ℕ) → (m < place) ⊎ (place ≤ m) → m < place + 1 → slice_index numbers m ≤ more
      seen m (inl h) below = let s = r.seen m h in omega (arith, s, most)
      seen m (inr h) below = let here : m ≡ place = omega (arith, h, below) in rw here (omega (arith, most))

      own : (n : ℕ) → ReadsMore raised more n (slice_index (raised ++ more ∷ []) n) → n ≤ slice_index (raised ++ more ∷ []) n
      own n (earlier h e) = let o = r.own n (omega (arith, r.long, h)) in rw e o
      own n (at_end h e) = rw e (omega (arith, r.long, h, most))

      above : (m n : ℕ) → m ≤ n → ReadsMore raised more n (slice_index (raised ++ more ∷ []) n) → slice_index numbers m ≤ slice_index (raised ++ more ∷ []) n
      above m n low (earlier h e) = rw e (r.above m n low (omega (arith, r.long, h)))
      above m n low (at_end h e) = rw e (seen m (cases_lt m place) (omega (arith, r.long, h, low)))

      ends : (n : ℕ) → n ≡ place → IsFound → IsPlaceOrOne numbers n more
      ends n at (inl is) = inr (place, omega (arith, at), is)
      ends n at (inr (inl b)) = inr (b.0, (let low = b.1 in omega (arith, at, low)), b.2)
      ends n at (inr (inr is)) = inl (omega (arith, at, is))

      one : (n : ℕ) → ReadsMore raised more n (slice_index (raised ++ more ∷ []) n) → IsPlaceOrOne numbers n (slice_index (raised ++ more ∷ []) n)
      one n (earlier h e) = subst (IsPlaceOrOne numbers n) (sym e) (r.one n (omega (arith, r.long, h)))
      one n (at_end h e) = subst (IsPlaceOrOne numbers n) (sym e) (ends n (h ∙ r.long) which)

      known : IsFound → IsLowOrBefore numbers (place + 1) more
      known (inl is) = inr (place, omega arith, is)
      known (inr (inl b)) = inr (b.0, (let low = b.1 in omega (arith, low)), b.2)
      known (inr (inr is)) = inl (omega (arith, is))

-- ---- snapshots that end before numbers

-- each commit saw only earlier ones
pub saw_earlier : (traces : List TraceView) → SeesEarlier traces → (j : ℕ) → IsUpTo (length traces) j → (trace_at traces j).start < j
saw_earlier traces sees zero within = absurd (omega (arith, within.0))
saw_earlier traces sees (suc n) within = go (slice_get_cases traces n).1
  where
    go : ((t : TraceView) × (n < length traces) × (slice_get traces n ≡ Some t) × (get_or traces n t ≡ t)) ⊎ ((length traces ≤ n) × (slice_get traces n ≡ None)) → (trace_at traces (suc n)).start < suc n
    go (inl s) = let low = sees n s.0 s.2 in subst (λ (o : Option TraceView). (unwrap_or o no_trace).start < suc n) (sym s.2) (omega (arith, low))
    go (inr s) = absurd (omega (arith, s.0, within.1))

-- of the first commits, for each number from 0 on, the last whose snapshot ends right before it
pub record AreLastUpTo (traces : List TraceView) (last : List ℕ) (count : ℕ) : Type 0 where
  pub long : length last ≡ length traces + 1
  pub ends : (n : ℕ) → slice_index last n ≢ 0 → (slice_index last n ≤ count) × ((trace_at traces (slice_index last n)).start + 1 ≡ n)
  pub whole : (n i : ℕ) → 1 ≤ i → i ≤ count → (trace_at traces i).start + 1 ≡ n → i ≤ slice_index last n

-- a read of a list in which one number was written
abbrev ReadsSet : List ℕ → (at x n read : ℕ) → Type 0
ReadsSet xs at x n read = ((n ≡ at) × (read ≡ x)) ⊎ ((n ≢ at) × (read ≡ slice_index xs n))

read_set : (xs : List ℕ) (at x n : ℕ) → at < length xs → ReadsSet xs at x n (slice_index (slice_set xs at x) n)
read_set xs at x n inside = go (eqb_tells n at)
  where
    go : (((n == at) ≡ true) × (n ≡ at)) ⊎ (((n == at) ≡ false) × (n ≢ at)) → ReadsSet xs at x n (slice_index (slice_set xs at x) n)
    go (inl h) = inl (h.1, (rw h.1 (get_or-set_same xs at x 0 inside)))
    go (inr h) = inr (h.1, get_or-set_other xs at n x 0 h.1)

-- the trace that stands at a place is that of the next number
pub trace_read : (traces : List TraceView) (place : ℕ) (t : TraceView) → place < length traces → t ≡ get_or traces place t → trace_at traces (place + 1) ≡ t
trace_read traces place t inside is = (let next : place + 1 ≡ suc place = omega arith in ap (trace_at traces) next) ∙ go traces place inside is
  where
    go : (traces : List TraceView) (place : ℕ) → place < length traces → t ≡ get_or traces place t → trace_at traces (suc place) ≡ t
    go [] place inside is = absurd (omega (arith, inside))
    go (u ∷ us) zero inside is = sym is
    go (u ∷ us) (suc place) inside is = go us place (omega (arith, inside)) is

-- one more commit
module _ (traces : List TraceView) (last : List ℕ) (count : ℕ) (so_far : AreLastUpTo traces last count) (sees : SeesEarlier traces) (inside : count < length traces) where
  abbrev at : ℕ
  at = (trace_at traces (count + 1)).start + 1

  abbrev written : List ℕ
  written = slice_set last at (count + 1)

  early : at < length last
  early = let low = saw_earlier traces sees (count + 1) (omega arith, omega (arith, inside)) in omega (arith, low, inside, so_far.long)

  pub last_more : AreLastUpTo traces written (count + 1)
  last_more = record {
    long = length-set last at (count + 1) ∙ so_far.long;
    ends = λ n some. ends n (read_set last at (count + 1) n early) some;
    whole = λ n i low high is. whole n i low high is (read_set last at (count + 1) n early);
  }
    where
      ends : (n : ℕ) → ReadsSet last at (count + 1) n (slice_index written n) → slice_index written n ≢ 0 →
          (slice_index written n ≤ count + 1) × ((trace_at traces (slice_index written n)).start + 1 ≡ n)
      ends n (inl h) some = rw h.1 (omega arith, sym h.0)
      ends n (inr h) some =
          let was = so_far.ends n (λ zero. some (h.1 ∙ zero)) in
          rw h.1 ((let low = was.0 in omega (arith, low)), was.1)

      whole : (n i : ℕ) → 1 ≤ i → i ≤ count + 1 → (trace_at traces i).start + 1 ≡ n → ReadsSet last at (count + 1) n (slice_index written n) → i ≤ slice_index written n
      whole n i low high is (inl h) = rw h.1 high
      whole n i low high is (inr h) = rw h.1 (so_far.whole n i low (go (cases_lt count i)) is)
        where
          go : (count < i) ⊎ (i ≤ count) → i ≤ count
          go (inr fits) = fits
          go (inl above) = absurd (h.0 (let here : i ≡ count + 1 = omega (arith, above, high) in sym is ∙ ap (λ k. (trace_at traces k).start + 1) here))

-- ---- horizons

-- a commit is not later than another, or began before it
abbrev IsNear : List TraceView → (i j : ℕ) → Type 0
IsNear traces i j = (i ≤ j) ⊎ ((trace_at traces i).start < j)

-- one that has to stand before another is near it
near_by : (traces : List TraceView) → SeesEarlier traces → (i j : ℕ) → IsUpTo (length traces) j → trace_depends traces i j ≡ true →
    IsNear traces i j
near_by traces sees i j within depends =
    first (or_cases _ _ (and_parts (not (i == j)) (changes_again traces i j || (sees_change traces i j || misses_change traces i j)) depends).1)
  where
    second : (sees_change traces i j ≡ true) ⊎ (misses_change traces i j ≡ true) → IsNear traces i j
    second (inl h) =
        let l = leb-true i (trace_at traces j).start (and_parts (nat_le i (trace_at traces j).start) _ h).0 in
        inl (omega (arith, l, saw_earlier traces sees j within))
    second (inr h) = inr (ltb-true (trace_at traces i).start j (and_parts (nat_lt (trace_at traces i).start j) _ h).0)

    first : (changes_again traces i j ≡ true) ⊎ ((sees_change traces i j || misses_change traces i j) ≡ true) → IsNear traces i j
    first (inl h) = let l = ltb-true i j (and_parts (nat_lt i j) _ h).0 in inl (omega (arith, l))
    first (inr h) = second (or_cases _ _ h)

module _ (traces : List TraceView) (last raised : List ℕ) (sees : SeesEarlier traces) (begun : AreLastBegun traces last) (up : AreRaised last raised) where
  last_within : (m : ℕ) → slice_index last m ≤ length traces
  last_within m = go (cases_lt 0 (slice_index last m))
    where
      go : (0 < slice_index last m) ⊎ (slice_index last m ≤ 0) → slice_index last m ≤ length traces
      go (inl h) = (begun.ends m (λ e. omega (arith, h, e))).0.1
      go (inr h) = omega (arith, h)

  raised_within : (n : ℕ) → slice_index raised n ≤ length traces
  raised_within n = go (cases_lt n (length last))
    where
      found : n < length last → IsPlaceOrOne last n (slice_index raised n) → slice_index raised n ≤ length traces
      found inside (inl e) = omega (arith, e, inside, begun.long)
      found inside (inr m) = let w = last_within m.0 in let e = m.2 in omega (arith, e, w)

      go : (n < length last) ⊎ (length last ≤ n) → slice_index raised n ≤ length traces
      go (inl inside) = found inside (up.one n inside)
      go (inr past) = let e = get_or_past raised n 0 (omega (arith, past, up.long)) in omega (arith, e)

  raised_whole : (i j : ℕ) → IsUpTo (length traces) i → IsUpTo (length traces) j → IsNear traces i j → i ≤ slice_index raised j
  raised_whole i j first second (inl h) = let o = up.own j (omega (arith, begun.long, second.1)) in omega (arith, o, h)
  raised_whole i j first second (inr h) =
      let w = begun.whole ((trace_at traces i).start + 1) i (first, refl) in
      let a = up.above ((trace_at traces i).start + 1) j (omega (arith, h)) (omega (arith, begun.long, second.1)) in
      omega (arith, w, a)

  raised_near : (j : ℕ) → IsUpTo (length traces) j → IsPlaceOrOne last j (slice_index raised j) → (slice_index raised j ≡ j) ⊎ ((trace_at traces (slice_index raised j)).start < j)
  raised_near j within (inl e) = inl e
  raised_near j within (inr m) =
      let o = up.own j (omega (arith, begun.long, within.1)) in
      let e = m.2 in
      let ends = begun.ends m.0 (λ zero. let low = within.0 in omega (arith, o, e, zero, low)) in
      let before : (trace_at traces (slice_index last m.0)).start < j = let low = m.1 in let end = ends.1 in omega (arith, low, end) in
      inr (subst (λ n. (trace_at traces n).start < j) (sym e) before)

  pub raised_horizons : AreHorizons traces raised
  raised_horizons = record {
    long = up.long ∙ begun.long;
    within = raised_within;
    whole = λ i j first second depends. raised_whole i j first second (near_by traces sees i j second depends);
    near = λ j within. raised_near j within (up.one j (omega (arith, begun.long, within.1)));
  }
