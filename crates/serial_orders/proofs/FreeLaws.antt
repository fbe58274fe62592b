-- The numbers that are free: those that were passed over, and those from the next on that wait for none.
use Rattle.std.proofs.Common.{◌≡◌, ◌≢◌, ℕ, zero, suc, ◌+◌, ◌-◌, ◌<◌, ◌≤◌, ◌==◌, ◌&&◌, ◌||◌, Bool, true, false, not, cond, List, [], ◌∷◌, ◌++◌, length, slice_index, max, ◌⊎◌, inl, inr, refl, sym, ap, ◌∙◌, subst, arith, nat_cmp, nat_lt, All}
use Rattle.std.specs.Prelude.{filter, Option}
use Rattle.std.specs.List.{range_with_len}
use Rattle.std.specs.BTreeMap.Range.{IsLtBy}
use Rattle.std.proofs.lemmas.Bool.{eq-eqb, ne_eqb, cases_Bool, cases_lt, false≢true}
use Rattle.std.proofs.lemmas.Bool.Decides.{nat_tests, eqb_tells}
use Rattle.std.proofs.lemmas.List.Folds.{list_any-append}
use Rattle.std.proofs.Math.Bool.{and-false}
use Rattle.serial_orders.specs.Orders.{is_one_of}
use Rattle.serial_orders.specs.Placing.{times, free_from, all_free, AreBelow, IsNextFree, IsLeastFirst}
use Rattle.serial_orders.proofs.NumberLists.{Same, Either, above-all, one-times}

-- ---- what stands in the lists

one-append : (xs ys : List ℕ) (n : ℕ) → is_one_of (xs ++ ys) n ≡ (is_one_of xs n || is_one_of ys n)
one-append xs ys n = list_any-append (λ m. m == n) xs ys

one-filter : (f : ℕ → Bool) (xs : List ℕ) (n : ℕ) → is_one_of (filter f xs) n ≡ (is_one_of xs n && f n)
one-filter f [] n = refl
one-filter f (x ∷ xs) n = go (cases_Bool (f x)) (eqb_tells x n) (one-filter f xs n)
  where
    go : Either (f x) → Same x n → is_one_of (filter f xs) n ≡ (is_one_of xs n && f n) → is_one_of (filter f (x ∷ xs)) n ≡ (is_one_of (x ∷ xs) n && f n)
    go (inl t) (inl e) l = rw (t, e.0) (sym (subst (λ m. f m ≡ true) e.1 t))
    go (inl t) (inr e) l = rw (t, e.0) l
    go (inr t) (inl e) l = let z : f n ≡ false = subst (λ m. f m ≡ false) e.1 t in rw (t, e.0) (l ∙ rw z (and-false (is_one_of xs n)))
    go (inr t) (inr e) l = rw (t, e.0) l

one-range : (c k n : ℕ) → is_one_of (range_with_len k c) n ≡ (not (nat_lt n k) && nat_lt n (k + c))
one-range zero k n = grind (arith, nat_tests)
one-range (suc c) k n = let l = one-range c (k + 1) n in rw l (grind (arith, nat_tests))

one-free : (waits : List ℕ) (k n : ℕ) → is_one_of (free_from waits k) n ≡ (not (nat_lt n k) && nat_lt n (length waits) && slice_index waits n == 0)
one-free waits k n =
    one-filter (λ m. slice_index waits m == 0) (range_with_len k (length waits - k)) n
    ∙ ap (λ b. b && slice_index waits n == 0) (one-range (length waits - k) k n ∙ go (cases_lt k (length waits)))
  where
    go : (k < length waits) ⊎ (length waits ≤ k) → (not (nat_lt n k) && nat_lt n (k + (length waits - k))) ≡ (not (nat_lt n k) && nat_lt n (length waits))
    go (inl l) = let e : k + (length waits - k) ≡ length waits = omega arith in ap (λ m. not (nat_lt n k) && nat_lt n m) e
    go (inr l) = let e : k + (length waits - k) ≡ k = omega arith in rw e (grind (arith, nat_tests))

-- ---- the numbers from one on, as they are walked over

module _ (waits : List ℕ) (k : ℕ) where
  free-at : k < length waits → free_from waits k ≡ cond (slice_index waits k == 0) (k ∷ free_from waits (k + 1)) (free_from waits (k + 1))
  free-at inside =
      let e : length waits - k ≡ suc (length waits - (k + 1)) = omega arith in
      ap (λ c. filter (λ n. slice_index waits n == 0) (range_with_len k c)) e

  pub free-here : k < length waits → slice_index waits k ≡ 0 → free_from waits k ≡ k ∷ free_from waits (k + 1)
  free-here inside none = free-at inside ∙ ap (λ b. cond b (k ∷ free_from waits (k + 1)) (free_from waits (k + 1))) (eq-eqb (slice_index waits k) 0 none)

  pub free-later : k < length waits → slice_index waits k ≢ 0 → free_from waits k ≡ free_from waits (k + 1)
  free-later inside some = free-at inside ∙ ap (λ b. cond b (k ∷ free_from waits (k + 1)) (free_from waits (k + 1))) (ne_eqb (slice_index waits k) 0 some)

  pub free-none : length waits ≤ k → free_from waits k ≡ []
  free-none past = let e : length waits - k ≡ 0 = omega arith in ap (λ c. filter (λ n. slice_index waits n == 0) (range_with_len k c)) e

-- ---- the least that is free

module _ (old new : List ℕ) (next n : ℕ) (is : old ≡ n ∷ new) (below : AreBelow next old) where
  pub passed-low : n < next
  passed-low = below n (subst (λ ns. is_one_of ns n ≡ true) (sym is) (rw (eq-eqb n n refl) refl))

  pub passed-left : AreBelow next new
  passed-left m h = below m (subst (λ ns. is_one_of ns m ≡ true) (sym is) (go (cases_Bool (n == m))))
    where
      go : Either (n == m) → ((n == m) || is_one_of new m) ≡ true
      go (inl e) = rw e refl
      go (inr e) = rw e h

pub no-numbers : (ns : List ℕ) → length ns ≤ 0 → ns ≡ []
no-numbers [] h = refl
no-numbers (n ∷ ns) h = absurd (omega arith)

pub passed-first : (old new waits : List ℕ) (next n : ℕ) → old ≡ n ∷ new → All (IsLtBy nat_cmp n) new → AreBelow next old
    → IsLeastFirst (all_free old waits next) (all_free new waits (max next (n + 1))) n
passed-first old new waits next n is above below =
    let first = low in
    let same : max next (n + 1) ≡ next = omega arith in
    rw same (record { first = ap (λ ns. ns ++ free_from waits next) is; less = λ m h. go m (cases_Bool (is_one_of new m)) (told m ∙ h) })
  where
    low : n < next
    low = passed-low old new next n is below

    told : (m : ℕ) → (is_one_of new m || (not (nat_lt m next) && nat_lt m (length waits) && slice_index waits m == 0)) ≡ is_one_of (all_free new waits next) m
    told m = sym (one-append new (free_from waits next) m ∙ ap (λ b. is_one_of new m || b) (one-free waits next m))

    go : (m : ℕ) → Either (is_one_of new m) → (is_one_of new m || (not (nat_lt m next) && nat_lt m (length waits) && slice_index waits m == 0)) ≡ true → n < m
    go m (inl o) h = above-all new n m above o
    go m (inr o) h = let later = rw o at h in let first = low in grind (arith, nat_tests)

pub next-first : (old new waits : List ℕ) (next n : ℕ) → old ≡ [] → new ≡ [] → IsNextFree waits next n
    → IsLeastFirst (all_free old waits next) (all_free new waits (max next (n + 1))) n
next-first old new waits next n none left is =
    let low = is.from_on in
    let same : max next (n + 1) ≡ n + 1 = omega arith in
    rw (same, none, left) (record { first = is.first; less = λ m h. let t = sym (one-free waits (n + 1) m) ∙ h in grind (arith, nat_tests) })

-- ---- what is free, as numbers are placed

pub start-free : (waits : List ℕ) (n : ℕ) → is_one_of (all_free [] waits 1) n ≡ (nat_lt 0 n && nat_lt n (length waits) && slice_index waits n == 0)
start-free waits n =
    let first : not (nat_lt n 1) ≡ nat_lt 0 n = grind (arith, nat_tests) in
    one-free waits 1 n ∙ ap (λ b. b && nat_lt n (length waits) && slice_index waits n == 0) first

-- whether a number is free, where it is one of those that are counted down, it waits for none now, or did before, it is
-- less than the next, and it is within
told : (p b z w l i : Bool) → (b ≡ true → i ≡ true) → (i ≡ true → w ≡ true → z ≡ true) → (i ≡ true → z ≡ true → w ≡ false → b ≡ true)
    → ((p || (b && (z && l))) || (not l && i && z)) ≡ ((p || (not l && i && w)) || (b && z))
told true b z w l i in' down up = refl
told false false z w true i in' down up = refl
told false true true w true i in' down up = refl
told false true false w true i in' down up = refl
told false true z w false false in' down up = absurd (false≢true (in' refl))
told false false z w false false in' down up = refl
told false true true true false true in' down up = refl
told false true true false false true in' down up = refl
told false false true true false true in' down up = refl
told false false true false false true in' down up = absurd (false≢true (up refl refl refl))
told false b false true false true in' down up = absurd (false≢true (down refl refl))
told false true false false false true in' down up = refl
told false false false false false true in' down up = refl

module _ (waits fewer passed more numbers : List ℕ) (next : ℕ)
    (is : (n : ℕ) → is_one_of more n ≡ (is_one_of passed n || (is_one_of numbers n && (slice_index fewer n == 0 && nat_lt n next)))) where
  pub freed-below : AreBelow next passed → AreBelow next more
  freed-below below n h = go (cases_Bool (is_one_of passed n)) (sym (is n) ∙ h)
    where
      go : Either (is_one_of passed n) → (is_one_of passed n || (is_one_of numbers n && (slice_index fewer n == 0 && nat_lt n next))) ≡ true → n < next
      go (inl o) t = below n o
      go (inr o) t = let freed = rw o at t in grind (arith, nat_tests)

  pub freed-more : length fewer ≡ length waits → AreBelow (length waits) numbers → ((n : ℕ) → n < length waits → slice_index fewer n + times n numbers ≡ slice_index waits n)
      → (n : ℕ) → is_one_of (all_free more fewer next) n ≡ (is_one_of (all_free passed waits next) n || (is_one_of numbers n && slice_index fewer n == 0))
  freed-more long within less n =
      now
      ∙ told (is_one_of passed n) (is_one_of numbers n) (slice_index fewer n == 0) (slice_index waits n == 0) (nat_lt n next) (nat_lt n (length waits)) inside down up
      ∙ sym (ap (λ b. b || (is_one_of numbers n && slice_index fewer n == 0)) (one-append passed (free_from waits next) n ∙ ap (λ b. is_one_of passed n || b) (one-free waits next n)))
    where
      now : is_one_of (all_free more fewer next) n
          ≡ ((is_one_of passed n || (is_one_of numbers n && (slice_index fewer n == 0 && nat_lt n next))) || (not (nat_lt n next) && nat_lt n (length waits) && slice_index fewer n == 0))
      now =
          one-append more (free_from fewer next) n
          ∙ ap (λ b. b || is_one_of (free_from fewer next) n) (is n)
          ∙ ap (λ b. (is_one_of passed n || (is_one_of numbers n && (slice_index fewer n == 0 && nat_lt n next))) || b)
          (one-free fewer next n ∙ ap (λ m. not (nat_lt n next) && nat_lt n m && slice_index fewer n == 0) long)

      inside : is_one_of numbers n ≡ true → nat_lt n (length waits) ≡ true
      inside o = let l = within n o in grind (arith, nat_tests)

      down : nat_lt n (length waits) ≡ true → (slice_index waits n == 0) ≡ true → (slice_index fewer n == 0) ≡ true
      down i w =
          let l : n < length waits = grind (arith, nat_tests) in
          let e = less n l in
          grind (arith, nat_tests)

      up : nat_lt n (length waits) ≡ true → (slice_index fewer n == 0) ≡ true → (slice_index waits n == 0) ≡ false → is_one_of numbers n ≡ true
      up i z w =
          let l : n < length waits = grind (arith, nat_tests) in
          let e = less n l in
          let some : 0 < times n numbers = grind (arith, nat_tests) in
          one-times n numbers some
