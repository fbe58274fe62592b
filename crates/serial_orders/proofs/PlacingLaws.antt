-- An order in the making: what is placed, for how many each number waits, and which are free.
use Rattle.std.proofs.Common.{◌≡◌, ◌≢◌, ℕ, zero, suc, ◌+◌, ◌-◌, ◌<◌, ◌≤◌, ◌==◌, ◌&&◌, ◌||◌, Bool, true, false, not, List, [], ◌∷◌, ◌++◌, length, get_or, slice_index, ◌⊎◌, inl, inr, refl, sym, ap, ◌∙◌, subst, arith, Some, nat_lt}
use Rattle.std.specs.List.{range_with_len}
use Rattle.std.proofs.lemmas.Bool.{eq-eqb, cases_Bool, false≢true}
use Rattle.std.proofs.lemmas.Bool.Decides.{nat_tests, eqb_tells}
use Rattle.serial_orders.specs.Orders.{is_one_of, is_free, first_free, placed_by, least_order}
use Rattle.serial_orders.specs.Precedence.{behind, precedes}
use Rattle.serial_orders.specs.Placing.{times, waits_from, AreWaits, WaitsBefore, IsStuck}
use Rattle.serial_orders.proofs.NumberLists.{Same, Either, one-push, times-none, times-some}
use Rattle.serial_orders.proofs.WaitLaws.{waits-placed, waits-some, all-placed}
use Rattle.serial_orders.proofs.LeastFree.{first-free, left_of, left-placed, left-none, left-some, times-range}

-- all numbers that have a list
abbrev pub all_of : List (List ℕ) → List ℕ
all_of lists = range_with_len 1 (length lists)

-- the number is free
abbrev pub IsFree : List (List ℕ) → (placed : List ℕ) → ℕ → Type 0
IsFree lists placed n = is_free (precedes lists) (all_of lists) placed n ≡ true

-- the number is free, as the counts tell
pub record IsReady (lists : List (List ℕ)) (placed : List ℕ) (n : ℕ) : Type 0 where
  pub first : 0 < n
  pub within : n < length lists + 1
  pub new : is_one_of placed n ≡ false
  pub waits : waits_from 1 lists placed n ≡ 0

-- so many are placed, each the least that was free; the keys are those that are free now
pub record IsPlacing (lists : List (List ℕ)) (turn : ℕ) (placed waits keys : List ℕ) : Type 0 where
  pub counts : AreWaits lists placed waits
  pub keys_ready : (n : ℕ) → is_one_of keys n ≡ true → IsReady lists placed n
  pub ready_keys : (n : ℕ) → IsReady lists placed n → is_one_of keys n ≡ true
  pub done : (n : ℕ) → is_one_of placed n ≡ true → waits_from 1 lists placed n ≡ 0
  pub left : left_of placed (all_of lists) + turn ≡ length lists
  pub order : (k : ℕ) → k + turn ≡ length lists → placed_by (precedes lists) (all_of lists) k placed ≡ least_order (precedes lists) (length lists)

-- ---- what is free

pub behind-at : (lists : List (List ℕ)) (p : ℕ) → 0 < p → behind lists p ≡ get_or lists (p - 1) []
behind-at lists zero h = absurd (omega arith)
behind-at lists (suc q) h = let e : q ≡ suc q - 1 = omega arith in ap (λ m. get_or lists m []) e

pub behind-next : (lists : List (List ℕ)) (p : ℕ) → behind lists (p + 1) ≡ get_or lists p []
behind-next lists p = let e : suc p ≡ p + 1 = omega arith in subst (λ m. behind lists m ≡ get_or lists p []) e refl

precedes-at : (lists : List (List ℕ)) (n j : ℕ) → precedes lists (1 + j) n ≡ is_one_of (get_or lists j []) n
precedes-at lists n j = let e : suc j ≡ 1 + j = omega arith in subst (λ m. precedes lists m n ≡ is_one_of (get_or lists j []) n) e refl

free-is : (lists : List (List ℕ)) (placed : List ℕ) (n : ℕ) → is_free (precedes lists) (all_of lists) placed n ≡ (not (is_one_of placed n) && waits_from 1 lists placed n == 0)
free-is lists placed n = ap (λ b. not (is_one_of placed n) && b) (all-placed (precedes lists) lists 1 placed n (λ j h. precedes-at lists n j))

free-ready : (lists : List (List ℕ)) (placed : List ℕ) (n : ℕ) → IsReady lists placed n → IsFree lists placed n
free-ready lists placed n r = free-is lists placed n ∙ rw (r.new, r.waits) refl

ready-free : (lists : List (List ℕ)) (placed : List ℕ) (n : ℕ) → 0 < n → n < length lists + 1 → IsFree lists placed n → IsReady lists placed n
ready-free lists placed n first within free = go (cases_Bool (is_one_of placed n)) (eqb_tells (waits_from 1 lists placed n) 0) (sym (free-is lists placed n) ∙ free)
  where
    go : Either (is_one_of placed n) → Same (waits_from 1 lists placed n) 0
        → (not (is_one_of placed n) && waits_from 1 lists placed n == 0) ≡ true → IsReady lists placed n
    go (inl o) _ h = absurd (false≢true (rw o at h))
    go (inr o) (inl w) h = record { first = first; within = within; new = o; waits = w.1 }
    go (inr o) (inr w) h = absurd (false≢true (rw (o, w.0) at h))

-- ---- the start

pub start-placing : (lists : List (List ℕ)) (waits keys : List ℕ) → AreWaits lists [] waits
    → ((n : ℕ) → is_one_of keys n ≡ (nat_lt 0 n && nat_lt n (length waits) && slice_index waits n == 0)) → IsPlacing lists 0 [] waits keys
start-placing lists waits keys counts is = record {
  counts = counts;
  keys_ready = ready;
  ready_keys = keys_of;
  done = λ n h. absurd (false≢true h);
  left = (let l = left-none (length lists) 1 in omega arith);
  order = λ k e. let s : k ≡ length lists = omega arith in subst (λ m. placed_by (precedes lists) (all_of lists) m [] ≡ least_order (precedes lists) (length lists)) (sym s) refl;
}
  where
    ready : (n : ℕ) → is_one_of keys n ≡ true → IsReady lists [] n
    ready n h =
        let t : (nat_lt 0 n && nat_lt n (length waits) && slice_index waits n == 0) ≡ true = sym (is n) ∙ h in
        let first : 0 < n = grind (arith, nat_tests) in
        let inside : n < length waits = grind (arith, nat_tests) in
        let none : slice_index waits n ≡ 0 = grind (arith, nat_tests) in
        let same = counts.each n inside in
        let long = counts.long in
        record { first = first; within = omega arith; new = refl; waits = sym same ∙ none }

    keys_of : (n : ℕ) → IsReady lists [] n → is_one_of keys n ≡ true
    keys_of n r =
        let long = counts.long in
        let first = r.first in
        let within = r.within in
        let inside : n < length waits = omega arith in
        let none : slice_index waits n ≡ 0 = counts.each n inside ∙ r.waits in
        is n ∙ grind (arith, nat_tests)

-- ---- one more place

module _ (lists : List (List ℕ)) (turn : ℕ) (placed waits : List ℕ) (p : ℕ) (keys : List ℕ) (now : IsPlacing lists turn placed waits (p ∷ keys)) where
  pub next-ready : IsReady lists placed p
  next-ready = now.keys_ready p (rw (eq-eqb p p refl) refl)

  pub next-waits : (n : ℕ) → waits_from 1 lists (placed ++ p ∷ []) n + times n (behind lists p) ≡ waits_from 1 lists placed n
  next-waits n =
      let r = next-ready in
      let first = r.first in
      let within = r.within in
      rw (behind-at lists p first) (waits-placed lists 1 (p - 1) p placed n (omega arith) (omega arith) r.new)

  pub next-enough : (n : ℕ) → n < length waits → times n (behind lists p) ≤ slice_index waits n
  next-enough n h = let a = next-waits n in let b = now.counts.each n h in omega arith

  module _ (above : (m : ℕ) → is_one_of keys m ≡ true → p < m) where
    next-free : first_free (precedes lists) (all_of lists) placed (all_of lists) ≡ Some p
    next-free =
        let r = next-ready in
        let first = r.first in
        let within = r.within in
        first-free (precedes lists) (all_of lists) placed (length lists) 1 p (omega arith) (omega arith) (free-ready lists placed p r) least
      where
        not_below : (q : ℕ) → q < p → is_one_of (p ∷ keys) q ≡ true → ⊥
        not_below q less h = go (eqb_tells p q) (cases_Bool (is_one_of keys q))
          where
            go : Same p q → Either (is_one_of keys q) → ⊥
            go (inl e) _ = let s = e.1 in absurd (omega arith)
            go (inr e) (inl o) = let s = above q o in absurd (omega arith)
            go (inr e) (inr o) = false≢true (rw (e.0, o) at h)

        least : (q : ℕ) → 1 ≤ q → q < p → is_free (precedes lists) (all_of lists) placed q ≡ false
        least q low less = go (cases_Bool (is_free (precedes lists) (all_of lists) placed q))
          where
            go : (IsFree lists placed q) ⊎ (is_free (precedes lists) (all_of lists) placed q ≡ false) → is_free (precedes lists) (all_of lists) placed q ≡ false
            go (inl f) = let r = next-ready in let w = r.within in absurd (not_below q less (now.ready_keys q (ready-free lists placed q (omega arith) (omega arith) f)))
            go (inr f) = f

    next-order : (k : ℕ) → k + (turn + 1) ≡ length lists → placed_by (precedes lists) (all_of lists) k (placed ++ p ∷ []) ≡ least_order (precedes lists) (length lists)
    next-order k e = rw next-free at (now.order (suc k) (omega arith))

    module _ (fewer more : List ℕ) (long : length fewer ≡ length waits) (within : (n : ℕ) → is_one_of (behind lists p) n ≡ true → (0 < n) × (n ≤ length lists))
        (less : (n : ℕ) → n < length waits → slice_index fewer n + times n (behind lists p) ≡ slice_index waits n)
        (is : (n : ℕ) → is_one_of more n ≡ (is_one_of keys n || (is_one_of (behind lists p) n && slice_index fewer n == 0))) where
      next-counts : AreWaits lists (placed ++ p ∷ []) fewer
      next-counts = record {
        long = long ∙ now.counts.long;
        each = λ n h.
            let inside : n < length waits = omega arith in
            let a = next-waits n in
            let b = now.counts.each n inside in
            let d = less n inside in
            omega arith;
      }

      next-done : (n : ℕ) → is_one_of (placed ++ p ∷ []) n ≡ true → waits_from 1 lists (placed ++ p ∷ []) n ≡ 0
      next-done n h = go (cases_Bool (is_one_of placed n)) (eqb_tells p n) (next-waits n)
        where
          go : Either (is_one_of placed n) → Same p n → waits_from 1 lists (placed ++ p ∷ []) n + times n (behind lists p) ≡ waits_from 1 lists placed n → waits_from 1 lists (placed ++ p ∷ []) n ≡ 0
          go (inl o) _ a = let d = now.done n o in omega arith
          go (inr o) (inl e) a = let d = subst (λ m. waits_from 1 lists placed m ≡ 0) e.1 next-ready.waits in omega arith
          go (inr o) (inr e) a = absurd (false≢true (sym (rw (o, e.0) at (one-push placed p n)) ∙ h))

      next-keys_ready : (n : ℕ) → is_one_of more n ≡ true → IsReady lists (placed ++ p ∷ []) n
      next-keys_ready n h = go (cases_Bool (is_one_of keys n)) (cases_Bool (is_one_of (behind lists p) n)) (eqb_tells (slice_index fewer n) 0)
        where
          of_old : is_one_of keys n ≡ true → IsReady lists (placed ++ p ∷ []) n
          of_old o =
              let r = now.keys_ready n (let either : (b : Bool) → (b || is_one_of keys n) ≡ true = λ b. elim b as (λ x. (x || is_one_of keys n) ≡ true) [ true ↦ refl | false ↦ o ] in either (p == n)) in
              let higher = above n o in
              let apart : (p == n) ≡ false = grind (arith, nat_tests) in
              let a = next-waits n in
              let z = r.waits in
              record { first = r.first; within = r.within; new = one-push placed p n ∙ rw (r.new, apart) refl; waits = omega arith }

          of_new : is_one_of (behind lists p) n ≡ true → slice_index fewer n ≡ 0 → IsReady lists (placed ++ p ∷ []) n
          of_new b z =
              let w = within n b in
              let high = w.1 in
              let l = next-counts.long in
              let inside : n < length fewer = omega arith in
              let none : waits_from 1 lists (placed ++ p ∷ []) n ≡ 0 = sym (next-counts.each n inside) ∙ z in
              let some = times-some n (behind lists p) b in
              record { first = w.0; within = omega arith; new = new none some; waits = none }
            where
              new : waits_from 1 lists (placed ++ p ∷ []) n ≡ 0 → 0 < times n (behind lists p) → is_one_of (placed ++ p ∷ []) n ≡ false
              new none some = go (cases_Bool (is_one_of placed n)) (eqb_tells p n) (next-waits n)
                where
                  go : Either (is_one_of placed n) → Same p n → waits_from 1 lists (placed ++ p ∷ []) n + times n (behind lists p) ≡ waits_from 1 lists placed n → is_one_of (placed ++ p ∷ []) n ≡ false
                  go (inl o) _ a = let d = now.done n o in absurd (omega arith)
                  go (inr o) (inl e) a = let d = subst (λ m. waits_from 1 lists placed m ≡ 0) e.1 next-ready.waits in absurd (omega arith)
                  go (inr o) (inr e) a = one-push placed p n ∙ rw (o, e.0) refl

          go : Either (is_one_of keys n) → Either (is_one_of (behind lists p) n) → Same (slice_index fewer n) 0 → IsReady lists (placed ++ p ∷ []) n
          go (inl o) _ _ = of_old o
          go (inr o) (inl b) (inl z) = of_new b z.1
          go (inr o) (inl b) (inr z) = absurd (false≢true (sym (rw (o, b, z.0) at (is n)) ∙ h))
          go (inr o) (inr b) _ = absurd (false≢true (sym (rw (o, b) at (is n)) ∙ h))

      next-ready_keys : (n : ℕ) → IsReady lists (placed ++ p ∷ []) n → is_one_of more n ≡ true
      next-ready_keys n r = go (cases_Bool (is_one_of (behind lists p) n)) (cases_Bool (is_one_of keys n)) (cases_Bool (is_one_of placed n)) (eqb_tells p n)
        where
          none : slice_index fewer n ≡ 0
          none =
              let l = next-counts.long in
              let w = r.within in
              let inside : n < length fewer = omega arith in
              next-counts.each n inside ∙ r.waits

          old : is_one_of (behind lists p) n ≡ false → is_one_of placed n ≡ false → IsReady lists placed n
          old b o =
              let a = next-waits n in
              let t = times-none n (behind lists p) b in
              let z = r.waits in
              record { first = r.first; within = r.within; new = o; waits = omega arith }

          go : Either (is_one_of (behind lists p) n) → Either (is_one_of keys n) → Either (is_one_of placed n) → Same p n → is_one_of more n ≡ true
          go _ (inl k) _ _ = is n ∙ rw k refl
          go (inl b) (inr k) _ _ = is n ∙ rw (k, b, none) refl
          go (inr b) (inr k) (inl o) _ = absurd (false≢true (sym r.new ∙ one-push placed p n ∙ rw o refl))
          go (inr b) (inr k) (inr o) (inl e) = absurd (false≢true (sym r.new ∙ one-push placed p n ∙ rw (o, e.0) refl))
          go (inr b) (inr k) (inr o) (inr e) = absurd (false≢true (rw (e.0, k) at (now.ready_keys n (old b o))))

      pub next-placing : IsPlacing lists (turn + 1) (placed ++ p ∷ []) fewer more
      next-placing = record {
        counts = next-counts;
        keys_ready = next-keys_ready;
        ready_keys = next-ready_keys;
        done = next-done;
        left =
            (let r = next-ready in
            let first = r.first in
            let inside = r.within in
            let a = left-placed placed p (all_of lists) r.new in
            let b = times-range (length lists) 1 p (omega arith) (omega arith) in
            let d = now.left in
            omega arith);
        order = next-order;
      }

-- ---- the end

pub end-placing : (lists : List (List ℕ)) (turn : ℕ) (placed waits keys : List ℕ) → IsPlacing lists turn placed waits keys → turn ≡ length lists → least_order (precedes lists) (length lists) ≡ Some placed
end-placing lists turn placed waits keys now e = sym (now.order 0 (omega arith))

no-keys : (keys : List ℕ) (n : ℕ) → length keys ≤ 0 → is_one_of keys n ≡ true → ⊥
no-keys [] n h o = false≢true o
no-keys (k ∷ keys) n h o = absurd (omega arith)

pub stuck-placing : (lists : List (List ℕ)) (turn : ℕ) (placed waits keys : List ℕ) → IsPlacing lists turn placed waits keys → turn < length lists → length keys ≤ 0 → IsStuck lists waits
stuck-placing lists turn placed waits keys now more none = record {
  long = now.counts.long;
  waiting = waiting;
  for_one = λ n h w. for_one n (waits-some lists 1 placed n (λ z. w (now.counts.each n h ∙ z)));
}
  where
    busy : (n : ℕ) → 0 < n → n < length lists + 1 → is_one_of placed n ≡ false → slice_index waits n ≢ 0
    busy n first within new z =
        let long = now.counts.long in
        let inside : n < length waits = omega arith in
        absurd (no-keys keys n none (now.ready_keys n (record { first = first; within = within; new = new; waits = sym (now.counts.each n inside) ∙ z })))

    waiting : (n : ℕ) × (n < length waits) × (slice_index waits n ≢ 0)
    waiting =
        let d = now.left in
        let w = left-some placed (length lists) 1 (omega arith) in
        let low = w.1 in
        let high = w.2 in
        let long = now.counts.long in
        (w.0, omega arith, busy w.0 (omega arith) (omega arith) w.3)

    for_one : (n : ℕ) → ((j : ℕ) × (j < length lists) × (is_one_of placed (1 + j) ≡ false) × (is_one_of (get_or lists j []) n ≡ true)) → (i : ℕ) × WaitsBefore lists waits i n
    for_one n w = let l = w.1 in (1 + w.0, (precedes-at lists n w.0 ∙ w.3, busy (1 + w.0) (omega arith) (omega arith) w.2))
