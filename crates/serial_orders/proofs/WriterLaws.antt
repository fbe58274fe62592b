-- Laws of the writers of cells.
use Rattle.std.proofs.Common.{◌≡◌, ◌∙◌, ℕ, zero, suc, ◌-◌, ◌≤◌, leb, nat_lt, Bool, true, false, cond, ◌||◌, if◌then◌else◌, List, [], ◌∷◌, ◌++◌, length, take, get_or, refl, ap, sym, subst, arith, tests, Bor}
use Rattle.std.proofs.lemmas.List.{length-take-le, get_or-take}
use Rattle.std.proofs.lemmas.Option.{slice_get-get_or, slice_get_past, slice_get_read}
use Rattle.std.specs.Prelude.{nat_le, Option, Some, None, IfSome, All, unwrap_or, slice_get, is_some, option_copied}
use Rattle.std.specs.List.Sorted.{IsStrictlySortedBy}
use Rattle.std.specs.Option.{option_or}
use Rattle.std.proofs.lemmas.List.Elements.{All-head, All-tail}
use Rattle.std.proofs.lemmas.Map.Keys.{sorted_tail}
use Rattle.std.proofs.lemmas.Bool.{lt-ltb, leb-false, le-ltb, leb-true}
use Rattle.prog_tree.specs.declared.cell.Cell.{Cell}
use Rattle.prog_tree.specs.Table.{cell_cmp, Cells, at_cell, is_same_cell, is_cell_among}
use Rattle.prog_tree.proofs.CellSets.{same-turned, not-behind}
use Rattle.prog_tree.proofs.TableStates.{cell_is}
use Rattle.version_store.proofs.RisingLaws.{cut_rest, cut_none}
use Rattle.serial_orders.specs.Reduced.{numbers_at, IsAddedAt, RiseFrom, AreWithin, AllRiseWithin, IsCutBy, last_seen, first_missed}

-- ---- walks over the cells of a commit

abbrev pub with_number : Bool → ℕ → List ℕ → List ℕ
with_number here n ws = if here then ws ++ n ∷ [] else ws

-- with the cells that are left, the numbers are what they will be at the end
pub record AddsNumber (n : ℕ) (cells rest : List Cell) (old now : Cells (List ℕ)) : Type 0 where
  pub sorted : IsStrictlySortedBy cell_cmp rest
  pub ends : (c : Cell) → with_number (is_cell_among rest c) n (numbers_at now c) ≡ with_number (is_cell_among cells c) n (numbers_at old c)

pub one_more_number :
    (n : ℕ) (cells left rest : List Cell) (k : Cell) (old now next : Cells (List ℕ)) → left ≡ k ∷ rest → AddsNumber n cells left old now →
    IsAddedAt (is_same_cell k) n now next → AddsNumber n cells rest old next
one_more_number n cells left rest k old now next is so_far added = record {
  sorted = sorted_tail cell_cmp k rest h.sorted;
  ends = λ c. turn c ∙ h.ends c;
}
  where
    h : AddsNumber n cells (k ∷ rest) old now
    h = subst (λ (cs : List Cell). AddsNumber n cells cs old now) is so_far

    turn : (c : Cell) → with_number (is_cell_among rest c) n (numbers_at next c) ≡ with_number (is_cell_among (k ∷ rest) c) n (numbers_at now c)
    turn c =
        ap (with_number (is_cell_among rest c) n) (added c ∙ ap (λ b. with_number b n (numbers_at now c)) (same-turned k c))
        ∙ go (is_same_cell c k) (λ same. not-behind k c rest h.sorted same)
      where
        go : (b : Bool) → (b ≡ true → is_cell_among rest c ≡ false) →
            with_number (is_cell_among rest c) n (with_number b n (numbers_at now c)) ≡ with_number (b || is_cell_among rest c) n (numbers_at now c)
        go true none = ap (λ a. with_number a n (numbers_at now c ++ n ∷ [])) (none refl)
        go false none = refl

-- ---- one number more at a cell

pub added_entry :
    (m n : Cells (List ℕ)) (cell : Cell) (number : ℕ) (new : List ℕ) → new ≡ numbers_at m cell ++ number ∷ [] →
    ((c : Cell) → at_cell n c ≡ cond (is_same_cell cell c) (Some new) (at_cell m c)) → IsAddedAt (is_same_cell cell) number m n
added_entry m n cell number new is written c =
    ap (λ (o : Option (List ℕ)). unwrap_or o []) (written c) ∙ go (is_same_cell cell c) (λ same. cell_is cell c same)
  where
    go : (b : Bool) → (b ≡ true → cell ≡ c) → unwrap_or (cond b (Some new) (at_cell m c)) [] ≡ (if b then numbers_at m c ++ number ∷ [] else numbers_at m c)
    go true same = is ∙ ap (λ x. numbers_at m x ++ number ∷ []) (same refl)
    go false same = refl

-- ---- the bisection

seen_none : (n : ℕ) (ms : List ℕ) → IsCutBy n ms 0 → None ≡ last_seen n ms
seen_none n [] cut = refl
seen_none n (m ∷ ms) cut =
    let above : leb m n ≡ false = cut.1 0 0 (omega arith) (omega arith) in
    let rest = seen_none n ms (cut_none (λ (k : ℕ). k) n m ms cut) in
    rw (← rest, above) refl

seen_last : (n : ℕ) (ms : List ℕ) (count : ℕ) → IsCutBy n ms (suc count) → suc count ≤ length ms → Some (get_or ms count 0) ≡ last_seen n ms
seen_last n [] count cut bound = absurd (omega arith)
seen_last n (m ∷ ms) zero cut bound =
    let within : leb m n ≡ true = cut.0 0 0 (omega arith) (omega arith) in
    let rest = seen_none n ms (cut_rest (λ (k : ℕ). k) n m ms 0 cut) in
    rw (← rest, within) refl
seen_last n (m ∷ ms) (suc count) cut bound =
    let rest = seen_last n ms count (cut_rest (λ (k : ℕ). k) n m ms (suc count) cut) (omega arith) in
    rw (← rest) refl

-- the last of the first `count`
pub seen_at : (n : ℕ) (ms : List ℕ) (count : ℕ) → IsCutBy n ms count → count ≤ length ms → slice_get (take count ms) (length (take count ms) - 1) ≡ last_seen n ms
seen_at n ms zero cut bound = seen_none n ms cut
seen_at n ms (suc count) cut bound =
    let size : length (take (suc count) ms) ≡ suc count = length-take-le (suc count) ms bound in
    let last : length (take (suc count) ms) - 1 ≡ count = omega (arith, size) in
    ap (slice_get (take (suc count) ms)) last
    ∙ slice_get-get_or (take (suc count) ms) count 0 (omega (arith, size))
    ∙ ap (λ (k : ℕ). Some k) (get_or-take (suc count) ms count 0 (omega arith))
    ∙ seen_last n ms count cut bound

missed_at : (n : ℕ) (ms : List ℕ) (count : ℕ) → IsCutBy n ms count → slice_get ms count ≡ first_missed n ms
missed_at n [] count cut = refl
missed_at n (m ∷ ms) zero cut =
    let above : leb m n ≡ false = cut.1 0 0 (omega arith) (omega arith) in
    rw (lt-ltb n m (leb-false m n above)) refl
missed_at n (m ∷ ms) (suc count) cut =
    let within : leb m n ≡ true = cut.0 0 0 (omega arith) (omega arith) in
    rw (le-ltb n m (leb-true m n within)) (missed_at n ms count (cut_rest (λ (k : ℕ). k) n m ms count cut))

pub missed_read : (n : ℕ) (ms : List ℕ) (count : ℕ) (found : Option (Bor ℕ))
    → is_some found ≡ nat_lt count (length ms) → IfSome found (λ m. m.now ≡ get_or ms count m.now) → IsCutBy n ms count → option_copied found ≡ first_missed n ms
missed_read n ms count None is_there read cut = sym (slice_get_past ms count (search (tests, arith))) ∙ missed_at n ms count cut
missed_read n ms count (Some m) is_there read cut =
    sym (slice_get_read ms (length ms) count m.now refl (search (tests, arith)) read) ∙ missed_at n ms count cut

-- ---- what holds of all numbers holds of these

pub seen_holds : (P : ℕ → Type 0) (n : ℕ) (ms : List ℕ) → All P ms → IfSome (last_seen n ms) P
seen_holds P n [] all = tt
seen_holds P n (m ∷ ms) all = go (last_seen n ms) (nat_le m n) (seen_holds P n ms (All-tail P m ms all)) (All-head P m ms all)
  where
    go : (o : Option ℕ) (b : Bool) → IfSome o P → P m → IfSome (option_or o (if b then Some m else None)) P
    go (Some w) b rest here = rest
    go None true rest here = here
    go None false rest here = tt

pub missed_holds : (P : ℕ → Type 0) (n : ℕ) (ms : List ℕ) → All P ms → IfSome (first_missed n ms) P
missed_holds P n [] all = tt
missed_holds P n (m ∷ ms) all = go (nat_lt n m) (missed_holds P n ms (All-tail P m ms all)) (All-head P m ms all)
  where
    go : (b : Bool) → IfSome (first_missed n ms) P → P m → IfSome (if b then Some m else first_missed n ms) P
    go true rest here = here
    go false rest here = rest

-- ---- what holds of all entries holds of the one at a cell

pub entry_holds : (n : ℕ) (m : Cells (List ℕ)) (c : Cell) (ws : List ℕ) → AllRiseWithin n m → Some ws ≡ at_cell m c → RiseFrom 0 ws × AreWithin n ws
entry_holds n [] c ws all found = absurd (cc)
entry_holds n (e ∷ es) c ws all found =
    go (is_same_cell c e.0) (entry_holds n es c ws (All-tail P e es all)) (All-head P e es all) found
  where
    P : Cell × List ℕ → Type 0
    P d = RiseFrom 0 d.1 × AreWithin n d.1

    go : (b : Bool) → (Some ws ≡ at_cell es c → RiseFrom 0 ws × AreWithin n ws) → P e → Some ws ≡ cond b (Some e.1) (at_cell es c) → RiseFrom 0 ws × AreWithin n ws
    go true rest here is = let same : e.1 ≡ ws = cc in subst (λ (vs : List ℕ). RiseFrom 0 vs × AreWithin n vs) same here
    go false rest here is = rest is
