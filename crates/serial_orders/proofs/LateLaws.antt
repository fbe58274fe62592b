-- Which commits may have missed a change: what the slots of cells tell.
use Rattle.std.proofs.Common.{◌≡◌, ◌∙◌, ◌≢◌, ◌⊎◌, inl, inr, ℕ, ◌+◌, ◌<◌, ◌≤◌, ◌==◌, max, nat_lt, Bool, true, false, not, ◌||◌, if◌then◌else◌, List, [], ◌∷◌, drop, length, length-set, replicate, get_or, slice_set, slice_index, refl, ap, sym, subst, arith}
use Rattle.std.specs.Prelude.{All, nat_le}
use Rattle.std.specs.List.{list_any}
use Rattle.std.proofs.lemmas.Bool.{and_parts, or_cases, cases_lt, false≢true, leb-true, ltb-false, ltb-true}
use Rattle.std.proofs.lemmas.Bool.Decides.{eqb_tells}
use Rattle.std.proofs.lemmas.List.{get_or-set_same, get_or-set_other, get_or-replicate, length-replicate, drop_more}
use Rattle.std.proofs.lemmas.List.Elements.{All-cons, All-head, All-tail}
use Rattle.prog_tree.specs.declared.cell.Cell.{Cell}
use Rattle.prog_tree.specs.Table.{is_same_cell, is_cell_among}
use Rattle.prog_tree.proofs.TableStates.{cell_is}
use Rattle.serial_orders.specs.declared.trace.Sight.{Sight}
use Rattle.serial_orders.specs.declared.trace.Sight.TheVariants as sight
use Rattle.serial_orders.specs.Late.{slot_of, slot_at, first_tested, EntersAll, HasChangers, IsSeenAt, TellLate, AreNextMarked, AreNextLate}
use Rattle.serial_orders.specs.Nearby.{is_marked, IsHolder, IsTestedBelow}
use Rattle.serial_orders.specs.Orders.{IsUpTo}
use Rattle.serial_orders.specs.TraceView.{TraceView}
use Rattle.serial_orders.specs.Traces.{changed_at, looked_at, takes_in, trace_at, trace_depends, changes_again, sees_change, misses_change, some_changed, SeesEarlier}
use Rattle.serial_orders.proofs.HorizonLaws.{saw_earlier}
use Rattle.serial_orders.proofs.TestLaws.{ne_told, PassesAmong, any_some}

-- ---- slots

-- a number is entered at the slot of one cell
pub enters_one : (c : Cell) (number : ℕ) (old : List ℕ) → slot_of (length old) c < length old →
    EntersAll (c ∷ []) number old (slice_set old (slot_of (length old) c) (max number (slice_index old (slot_of (length old) c))))
enters_one c number old inside = record {
  long = length-set old slot raised;
  more = λ n. more n (eqb_tells n slot);
  entered = λ d among. entered d (or_cases (is_same_cell d c) false among);
}
  where
    slot : ℕ
    slot = slot_of (length old) c

    raised : ℕ
    raised = max number (slice_index old slot)

    more : (n : ℕ) → (((n == slot) ≡ true) × (n ≡ slot)) ⊎ (((n == slot) ≡ false) × (n ≢ slot)) → slice_index old n ≤ slice_index (slice_set old slot raised) n
    more n (inl h) = rw (h.1, get_or-set_same old slot raised 0 inside) (omega arith)
    more n (inr h) = rw (get_or-set_other old slot n raised 0 h.1) (omega arith)

    entered : (d : Cell) → (is_same_cell d c ≡ true) ⊎ (false ≡ true) → number ≤ slot_at (slice_set old slot raised) d
    entered d (inr none) = absurd (false≢true none)
    entered d (inl same) =
        let is : d ≡ c = cell_is d c same in
        rw (is, length-set old slot raised, get_or-set_same old slot raised 0 inside) (omega arith)

-- with the cells that are left, a number is entered at the slots of all
pub record EntersRest (cells rest : List Cell) (number : ℕ) (old now : List ℕ) : Type 0 where
  pub long : length now ≡ length old
  pub more : (n : ℕ) → slice_index old n ≤ slice_index now n
  pub entered : (c : Cell) → is_cell_among cells c ≡ true → (is_cell_among rest c ≡ true) ⊎ (number ≤ slot_at now c)

pub enters_none : (cells : List Cell) (number : ℕ) (old : List ℕ) → EntersRest cells cells number old old
enters_none cells number old = record {
  long = refl;
  more = λ n. omega arith;
  entered = λ c among. inl among;
}

pub enters_more : (cells left rest : List Cell) (k : Cell) (number : ℕ) (old now next : List ℕ) → left ≡ k ∷ rest →
    EntersRest cells left number old now → EntersAll (k ∷ []) number now next → EntersRest cells rest number old next
enters_more cells left rest k number old now next is so_far one = record {
  long = one.long ∙ so_far.long;
  more = λ n. (let a = so_far.more n in let b = one.more n in omega (arith, a, b));
  entered = λ c among. first c (so_far.entered c among);
}
  where
    second : (c : Cell) → (is_same_cell c k ≡ true) ⊎ (is_cell_among rest c ≡ true) → (is_cell_among rest c ≡ true) ⊎ (number ≤ slot_at next c)
    second c (inr later) = inl later
    second c (inl same) = inr (one.entered c (ap (λ b. b || false) same))

    first : (c : Cell) → (is_cell_among left c ≡ true) ⊎ (number ≤ slot_at now c) → (is_cell_among rest c ≡ true) ⊎ (number ≤ slot_at next c)
    first c (inl among) = second c (or_cases _ _ (subst (λ (cs : List Cell). is_cell_among cs c ≡ true) is among))
    first c (inr up) =
        let a = one.more (slot_of (length now) c) in
        inr (rw one.long (omega (arith, a, up)))

pub enters_all : (cells : List Cell) (number : ℕ) (old now : List ℕ) → EntersRest cells [] number old now → EntersAll cells number old now
enters_all cells number old now all = record {
  long = all.long;
  more = all.more;
  entered = λ c among. go c (all.entered c among);
}
  where
    go : (c : Cell) → (is_cell_among [] c ≡ true) ⊎ (number ≤ slot_at now c) → number ≤ slot_at now c
    go c (inl none) = absurd (false≢true none)
    go c (inr up) = up

-- ---- looks

pub one_seen : (slots : List ℕ) (count start : ℕ) (cell : Cell) → slot_at slots cell ≤ start → IsSeenAt slots count start (sight.One cell)
one_seen slots count start cell seen = λ c taken. inl (subst (λ (d : Cell). slot_at slots d ≤ start) (cell_is cell c taken) seen)

-- a look that saw what the slots tell takes in no cell that a later one of the first commits changed
pub seen_one : (slots : List ℕ) (count start k : ℕ) (c : Cell) (s : Sight) → k ≤ count → k ≤ slot_at slots c →
    IsSeenAt slots count start s → takes_in s c ≡ true → k ≤ start
seen_one slots count start k c s low up seen taken = go (seen c taken)
  where
    go : (slot_at slots c ≤ start) ⊎ (count ≤ start) → k ≤ start
    go (inl at_slot) = omega (arith, up, at_slot)
    go (inr at_end) = omega (arith, low, at_end)

-- nor does any of such looks
pub seen_all : (slots : List ℕ) (count start k : ℕ) (c : Cell) (sights : List Sight) → k ≤ count → k ≤ slot_at slots c →
    All (IsSeenAt slots count start) sights → list_any (λ s. takes_in s c) sights ≡ true → k ≤ start
seen_all slots count start k c [] low up all any = absurd (false≢true any)
seen_all slots count start k c (s ∷ ss) low up all any =
    go (or_cases (takes_in s c) (list_any (λ s. takes_in s c) ss) any) (seen_all slots count start k c ss low up (All-tail (IsSeenAt slots count start) s ss all))
  where
    go : (takes_in s c ≡ true) ⊎ (list_any (λ s. takes_in s c) ss ≡ true) → (list_any (λ s. takes_in s c) ss ≡ true → k ≤ start) → k ≤ start
    go (inl taken) rest = seen_one slots count start k c s low up (All-head (IsSeenAt slots count start) s ss all) taken
    go (inr later) rest = rest later

-- where a look and all behind it saw what the slots tell, all from it on did
pub seen_more : (slots : List ℕ) (count start k : ℕ) (sights : List Sight) (s : Sight) → k < length sights → s ≡ get_or sights k s →
    IsSeenAt slots count start s → All (IsSeenAt slots count start) (drop (k + 1) sights) → All (IsSeenAt slots count start) (drop k sights)
seen_more slots count start k sights s inside is seen rest =
    subst (All (IsSeenAt slots count start)) (sym (drop_more sights k s inside))
    (All-cons (IsSeenAt slots count start) (get_or sights k s) (drop (k + 1) sights) (subst (λ (at : Sight). IsSeenAt slots count start at) is seen) rest)

-- ---- late commits

-- a commit that has to stand before one that is not later missed its change
pub late_misses : (traces : List TraceView) → SeesEarlier traces → (i j : ℕ) → IsUpTo (length traces) i → IsUpTo i j → trace_depends traces i j ≡ true → misses_change traces i j ≡ true
late_misses traces sees i j first second depends =
    start (or_cases _ _ (and_parts (not (i == j)) (changes_again traces i j || (sees_change traces i j || misses_change traces i j)) depends).1)
  where
    later : (sees_change traces i j ≡ true) ⊎ (misses_change traces i j ≡ true) → misses_change traces i j ≡ true
    later (inr h) = h
    later (inl h) =
        let seen = leb-true i (trace_at traces j).start (and_parts (nat_le i (trace_at traces j).start) _ h).0 in
        let low = saw_earlier traces sees j (second.0, (let a = second.1 in let b = first.1 in omega (arith, a, b))) in
        let high = second.1 in
        absurd (omega (arith, seen, low, high))

    start : (changes_again traces i j ≡ true) ⊎ ((sees_change traces i j || misses_change traces i j) ≡ true) → misses_change traces i j ≡ true
    start (inl h) = let up = ltb-true i j (and_parts (nat_lt i j) _ h).0 in let high = second.1 in absurd (omega (arith, up, high))
    start (inr h) = later (or_cases _ _ h)

-- of the first commits each that missed a change of an earlier one has a mark, and the slots have their changes
pub record AreLateUpTo (traces : List TraceView) (slots : List ℕ) (late : List Bool) (count : ℕ) : Type 0 where
  pub long : length late ≡ length traces + 1
  pub some : 0 < length slots
  pub changers : HasChangers traces slots count
  pub told : (i j : ℕ) → IsUpTo count i → IsUpTo i j → trace_depends traces i j ≡ true → is_marked late i ≡ true

pub late_none : (traces : List TraceView) (slots : List ℕ) (late : List Bool) → 0 < length slots → length late ≡ length traces + 1 → AreLateUpTo traces slots late 0
late_none traces slots late some long = record {
  long = long;
  some = some;
  changers = λ k c within changed. absurd (let a = within.0 in let b = within.1 in omega (arith, a, b));
  told = λ i j within below depends. absurd (let a = within.0 in let b = within.1 in omega (arith, a, b));
}

-- what a commit missed that has no mark: nothing of those before it
pub no_miss : (traces : List TraceView) (slots : List ℕ) (count i j : ℕ) → i ≡ count + 1 → HasChangers traces slots count →
    All (IsSeenAt slots count (trace_at traces i).start) (trace_at traces i).looked → IsUpTo i j → (i ≡ j → ⊥) → misses_change traces i j ≡ true → ⊥
no_miss traces slots count i j is changers seen within apart missed = go (any_some (looked_at (trace_at traces i)) (trace_at traces j).changed parts.1)
  where
    parts : (nat_lt (trace_at traces i).start j ≡ true) × (some_changed (looked_at (trace_at traces i)) (trace_at traces j) ≡ true)
    parts = and_parts (nat_lt (trace_at traces i).start j) _ missed

    low : j ≤ count
    low = go (cases_lt count j)
      where
        go : (count < j) ⊎ (j ≤ count) → j ≤ count
        go (inr fits) = fits
        go (inl up) = absurd (apart (let high = within.1 in omega (arith, up, high, is)))

    go : PassesAmong (looked_at (trace_at traces i)) (trace_at traces j).changed → ⊥
    go p =
        let up = changers j p.cell (within.0, low) p.among in
        let seen_it = seen_all slots count (trace_at traces i).start j p.cell (trace_at traces i).looked low up seen p.passes in
        let after = ltb-true (trace_at traces i).start j parts.0 in
        omega (arith, seen_it, after)

module _ (traces : List TraceView) (slots next : List ℕ) (late : List Bool) (count : ℕ) (marked : Bool) (sees : SeesEarlier traces) (so_far : AreLateUpTo traces slots late count) (inside : count < length traces)
    (seen : marked ≡ false → All (IsSeenAt slots count (trace_at traces (count + 1)).start) (trace_at traces (count + 1)).looked)
    (entered : EntersAll (trace_at traces (count + 1)).changed (count + 1) slots next) where
  abbrev pub written : List Bool
  written = slice_set late (count + 1) marked

  pub late_more : AreLateUpTo traces next written (count + 1)
  late_more = record {
    long = length-set late (count + 1) marked ∙ so_far.long;
    some = rw entered.long so_far.some;
    changers = λ k c within changed. changers k c within changed (cases_lt count k);
    told = λ i j within below depends. told i j within below depends (eqb_tells i (count + 1));
  }
    where
      changers : (k : ℕ) (c : Cell) → IsUpTo (count + 1) k → changed_at (trace_at traces k) c ≡ true → (count < k) ⊎ (k ≤ count) → k ≤ slot_at next c
      changers k c within changed (inr low) =
          let was = so_far.changers k c (within.0, low) changed in
          let more = entered.more (slot_of (length slots) c) in
          rw entered.long (omega (arith, was, more))
      changers k c within changed (inl up) =
          let here : k ≡ count + 1 = let high = within.1 in omega (arith, up, high) in
          rw here (entered.entered c (subst (λ n. changed_at (trace_at traces n) c ≡ true) here changed))

      now : (j : ℕ) (b : Bool) → marked ≡ b → IsUpTo (count + 1) j → trace_depends traces (count + 1) j ≡ true → b ≡ true
      now j true is below depends = refl
      now j false is below depends =
          absurd (no_miss traces slots count (count + 1) j refl so_far.changers (seen is) below
          (ne_told (count + 1) j (and_parts (not ((count + 1) == j)) _ depends).0)
          (late_misses traces sees (count + 1) j (omega arith, omega (arith, inside)) below depends))

      told : (i j : ℕ) → IsUpTo (count + 1) i → IsUpTo i j → trace_depends traces i j ≡ true → (((i == (count + 1)) ≡ true) × (i ≡ count + 1)) ⊎ (((i == (count + 1)) ≡ false) × (i ≢ count + 1)) → is_marked written i ≡ true
      told i j within below depends (inl h) =
          let at : is_marked written (count + 1) ≡ marked = get_or-set_same late (count + 1) marked false (omega (arith, so_far.long, inside)) in
          let below-at : IsUpTo (count + 1) j = subst (λ n. IsUpTo n j) h.1 below in
          let depends-at = subst (λ n. trace_depends traces n j ≡ true) h.1 depends in
          subst (λ n. is_marked written n ≡ true) (sym h.1) (at ∙ now j marked refl below-at depends-at)
      told i j within below depends (inr h) =
          get_or-set_other late (count + 1) i marked false h.1
          ∙ so_far.told i j (within.0, (let apart = h.1 in let high = within.1 in below_next i apart high)) below depends
        where
          below_next : (i : ℕ) → i ≢ count + 1 → i ≤ count + 1 → i ≤ count
          below_next i apart high = go (cases_lt count i)
            where
              go : (count < i) ⊎ (i ≤ count) → i ≤ count
              go (inr fits) = fits
              go (inl up) = absurd (apart (omega (arith, up, high)))

pub late_told : (traces : List TraceView) (slots : List ℕ) (late : List Bool) (count : ℕ) → length traces ≤ count → AreLateUpTo traces slots late count → TellLate traces late
late_told traces slots late count all are = record {
  long = are.long;
  told = λ i j within below depends. are.told i j (within.0, (let high = within.1 in omega (arith, high, all))) below depends;
}

-- ---- the next late commit

-- from a number on, the next marks are known
pub record AreNextFrom (marks : List Bool) (next : List ℕ) (first : ℕ) : Type 0 where
  pub long : length next ≡ length marks + 1
  pub low : first ≤ length marks
  pub after : (n : ℕ) → first ≤ n → n ≤ length marks → n ≤ slice_index next n
  pub whole : (n i : ℕ) → first ≤ n → n ≤ i → i < length marks → is_marked marks i ≡ true → slice_index next n ≤ i

pub next_start : (marks : List Bool) (next : List ℕ) → next ≡ replicate (length marks + 1) (length marks) → AreNextFrom marks next (length marks)
next_start marks next is = record {
  long = ap (λ (ns : List ℕ). length ns) is ∙ length-replicate (length marks + 1) (length marks);
  low = omega arith;
  after = λ n low high. let same : n ≡ length marks = omega (arith, low, high) in rw (is, same) (omega (arith, get_or-replicate (length marks + 1) (length marks) (length marks) 0 (omega arith)));
  whole = λ n i first up within marked. absurd (omega (arith, first, up, within));
}

-- what stands at a number, before those that are known: itself where it has a mark, or what stands at the next
pub next_more : (marks : List Bool) (next : List ℕ) (number value : ℕ) → AreNextFrom marks next (number + 1) →
    (is_marked marks number ≡ true → value ≡ number) → (is_marked marks number ≡ false → value ≡ slice_index next (number + 1)) →
    AreNextFrom marks (slice_set next number value) number
next_more marks next number value so_far with_mark without = record {
  long = length-set next number value ∙ so_far.long;
  low = omega (arith, so_far.low);
  after = λ n low high. after n low high (eqb_tells n number);
  whole = λ n i low up within marked. whole n i low up within marked (eqb_tells n number);
}
  where
    inside : number < length next
    inside = omega (arith, so_far.long, so_far.low)

    apart : (n : ℕ) → number ≤ n → n ≢ number → number + 1 ≤ n
    apart n low other = go (cases_lt number n)
      where
        go : (number < n) ⊎ (n ≤ number) → number + 1 ≤ n
        go (inl up) = omega (arith, up)
        go (inr down) = absurd (other (omega (arith, low, down)))

    after_here : (b : Bool) → is_marked marks number ≡ b → number ≤ value
    after_here true is = let v = with_mark is in omega (arith, v)
    after_here false is =
        let v = without is in
        let a = so_far.after (number + 1) (omega arith) so_far.low in
        omega (arith, v, a)

    after : (n : ℕ) → number ≤ n → n ≤ length marks → (((n == number) ≡ true) × (n ≡ number)) ⊎ (((n == number) ≡ false) × (n ≢ number)) →
        n ≤ slice_index (slice_set next number value) n
    after n low high (inl h) = rw (h.1, get_or-set_same next number value 0 inside) (after_here (is_marked marks number) refl)
    after n low high (inr h) = rw (get_or-set_other next number n value 0 h.1) (so_far.after n (apart n low h.1) high)

    whole_at : (i : ℕ) (b : Bool) → is_marked marks number ≡ b → number ≤ i → i < length marks → is_marked marks i ≡ true → (number < i) ⊎ (i ≤ number) → value ≤ i
    whole_at i true is up within marked _ = let v = with_mark is in omega (arith, v, up)
    whole_at i false is up within marked (inl above) =
        let v = without is in
        let w = so_far.whole (number + 1) i (omega arith) (omega (arith, above)) within marked in
        omega (arith, v, w)
    whole_at i false is up within marked (inr below) =
        let same : number ≡ i = omega (arith, up, below) in
        absurd (false≢true (sym is ∙ subst (λ n. is_marked marks n ≡ true) (sym same) marked))

    whole : (n i : ℕ) → number ≤ n → n ≤ i → i < length marks → is_marked marks i ≡ true → (((n == number) ≡ true) × (n ≡ number)) ⊎ (((n == number) ≡ false) × (n ≢ number)) →
        slice_index (slice_set next number value) n ≤ i
    whole n i low up within marked (inl h) =
        rw (h.1, get_or-set_same next number value 0 inside)
        (whole_at i (is_marked marks number) refl (omega (arith, low, up)) within marked (cases_lt number i))
    whole n i low up within marked (inr h) =
        rw (get_or-set_other next number n value 0 h.1) (so_far.whole n i (apart n low h.1) up within marked)

pub next_whole : (marks : List Bool) (next : List ℕ) → AreNextFrom marks next 0 → AreNextMarked marks next
next_whole marks next are = record {
  long = are.long;
  after = λ n high. are.after n (omega arith) high;
  whole = λ n i up within marked. are.whole n i (omega arith) up within marked;
}

-- where the marks tell which commits are late, the next mark is the next late commit
pub late_next : (traces : List TraceView) (late : List Bool) (next : List ℕ) → TellLate traces late → AreNextMarked late next → AreNextLate traces next
late_next traces late next tell are = record {
  long = are.long ∙ ap (λ n. n + 1) tell.long ∙ omega arith;
  after = λ n high. are.after n (omega (arith, tell.long, high));
  whole = λ n i j low within below depends.
      are.whole n i low (let high = within.1 in omega (arith, tell.long, high)) (tell.told i j within below depends);
}

-- ---- tests that are left out

-- where all holders below a number are tested, all below the first to be tested from there on are
tested_first : (traces : List TraceView) (marks : List Bool) (next : List ℕ) (n from : ℕ) → AreNextLate traces next → 1 ≤ n →
    IsTestedBelow traces marks n from → IsTestedBelow traces marks n (first_tested next from n)
tested_first traces marks next n from late some tested = go (nat_lt from n) refl
  where
    skipped : n ≤ from → (i : ℕ) → IsHolder traces i n → i < slice_index next from → (i < from) ⊎ (from ≤ i) → is_marked marks i ≡ true
    skipped up i holder high (inl below) = tested i holder below
    skipped up i holder high (inr above) =
        let w = late.whole from i n above holder.0 (some, omega (arith, up, above)) holder.1 in
        absurd (omega (arith, high, w))

    go : (b : Bool) → nat_lt from n ≡ b → IsTestedBelow traces marks n (if b then from else slice_index next from)
    go true is = tested
    go false is = λ i holder high. skipped (ltb-false from n is) i holder high (cases_lt i from)

-- the first to be tested from a number on is no less
pub first_after : (traces : List TraceView) (next : List ℕ) (n from : ℕ) → AreNextLate traces next → from ≤ length traces + 1 → from ≤ first_tested next from n
first_after traces next n from late high = go (nat_lt from n)
  where
    go : (b : Bool) → from ≤ (if b then from else slice_index next from)
    go true = omega arith
    go false = late.after from high

-- so the tests go on there
pub tested_on : (traces : List TraceView) (marks : List Bool) (next : List ℕ) (n from : ℕ) → AreNextLate traces next → 1 ≤ n → IsUpTo (length traces + 1) from →
    IsTestedBelow traces marks n from → (1 ≤ first_tested next from n) × IsTestedBelow traces marks n (first_tested next from n)
tested_on traces marks next n from late some up tested =
    let after = first_after traces next n from late up.1 in
    (omega (arith, up.0, after), tested_first traces marks next n from late some tested)
