-- The numbers of a range: the first that is free, and how many are left.
use Rattle.std.proofs.Common.{◌≡◌, ℕ, zero, suc, ◌+◌, ◌<◌, ◌≤◌, ◌==◌, ◌||◌, Bool, true, false, List, [], ◌∷◌, ◌++◌, inl, inr, refl, sym, ap, ◌∙◌, subst, arith, Some, if◌then◌else◌}
use Rattle.std.specs.List.{range_with_len}
use Rattle.std.proofs.lemmas.Bool.{cases_Bool}
use Rattle.std.proofs.lemmas.Bool.Decides.{eqb_tells}
use Rattle.serial_orders.specs.Orders.{is_one_of, is_free, first_free}
use Rattle.serial_orders.specs.Placing.{times}
use Rattle.serial_orders.proofs.NumberLists.{Same, Either, one-push}

pub first-free : (before : ℕ → ℕ → Bool) (all placed : List ℕ) (c k p : ℕ) → k ≤ p → p < k + c → is_free before all placed p ≡ true → ((q : ℕ) → k ≤ q → q < p → is_free before all placed q ≡ false)
    → first_free before all placed (range_with_len k c) ≡ Some p
first-free before all placed zero k p low high free least = absurd (omega arith)
first-free before all placed (suc c) k p low high free least = go (eqb_tells k p) (first-free before all placed c (k + 1) p)
  where
    go : Same k p
        → ((k + 1) ≤ p → p < (k + 1) + c → is_free before all placed p ≡ true → ((q : ℕ) → (k + 1) ≤ q → q < p → is_free before all placed q ≡ false) → first_free before all placed (range_with_len (k + 1) c) ≡ Some p)
        → first_free before all placed (range_with_len k (suc c)) ≡ Some p
    go (inl e) _ =
        let here : is_free before all placed k ≡ true = subst (λ m. is_free before all placed m ≡ true) (sym e.1) free in
        rw here (ap (λ m. Some m) e.1)
    go (inr e) later =
        let apart = e.1 in
        rw (least k (omega arith) (omega arith)) (later (omega arith) (omega arith) free (λ q a b. least q (omega arith) b))

-- how many of some numbers are not placed
abbrev pub left_of : List ℕ → List ℕ → ℕ
left_of placed [] = 0
left_of placed (m ∷ ms) = (if is_one_of placed m then 0 else 1) + left_of placed ms

pub left-placed : (placed : List ℕ) (p : ℕ) (xs : List ℕ) → is_one_of placed p ≡ false → left_of (placed ++ p ∷ []) xs + times p xs ≡ left_of placed xs
left-placed placed p [] new = omega arith
left-placed placed p (x ∷ xs) new = rw (one-push placed p x) (go (eqb_tells p x) (eqb_tells x p) (cases_Bool (is_one_of placed x)) (left-placed placed p xs new))
  where
    go : Same p x → Same x p → Either (is_one_of placed x)
        → left_of (placed ++ p ∷ []) xs + times p xs ≡ left_of placed xs
        → ((if is_one_of placed x || p == x then 0 else 1) + left_of (placed ++ p ∷ []) xs) + ((if x == p then 1 else 0) + times p xs) ≡ (if is_one_of placed x then 0 else 1) + left_of placed xs
    go (inl e) (inr d) _ _ = absurd (d.1 (sym e.1))
    go (inr e) (inl d) _ _ = absurd (e.1 (sym d.1))
    go (inl e) (inl d) (inl o) l = let no = sym new ∙ ap (is_one_of placed) e.1 ∙ o in grind arith
    go (inl e) (inl d) (inr o) l = rw (o, e.0, d.0) (omega arith)
    go (inr e) (inr d) (inl o) l = rw (o, d.0) (omega arith)
    go (inr e) (inr d) (inr o) l = rw (o, e.0, d.0) (omega arith)

times-range_below : (c k p : ℕ) → p < k → times p (range_with_len k c) ≡ 0
times-range_below zero k p h = refl
times-range_below (suc c) k p h = go (eqb_tells k p) (times-range_below c (k + 1) p (omega arith))
  where
    go : Same k p → times p (range_with_len (k + 1) c) ≡ 0 → times p (range_with_len k (suc c)) ≡ 0
    go (inl e) _ = let s = e.1 in absurd (omega arith)
    go (inr e) l = rw (e.0, l) refl

pub times-range : (c k p : ℕ) → k ≤ p → p < k + c → times p (range_with_len k c) ≡ 1
times-range zero k p low high = absurd (omega arith)
times-range (suc c) k p low high = go (eqb_tells k p) (times-range c (k + 1) p) (times-range_below c (k + 1) p)
  where
    go : Same k p → ((k + 1) ≤ p → p < (k + 1) + c → times p (range_with_len (k + 1) c) ≡ 1) → (p < k + 1 → times p (range_with_len (k + 1) c) ≡ 0) → times p (range_with_len k (suc c)) ≡ 1
    go (inl e) _ none = let s = e.1 in rw (e.0, none (omega arith)) refl
    go (inr e) later _ = let s = e.1 in rw (e.0, later (omega arith) (omega arith)) refl

pub left-none : (c k : ℕ) → left_of [] (range_with_len k c) ≡ c
left-none zero k = refl
left-none (suc c) k = let l = left-none c (k + 1) in omega arith

pub left-some : (placed : List ℕ) (c k : ℕ) → 0 < left_of placed (range_with_len k c) → (m : ℕ) × (k ≤ m) × (m < k + c) × (is_one_of placed m ≡ false)
left-some placed zero k h = absurd (omega arith)
left-some placed (suc c) k h = go (cases_Bool (is_one_of placed k)) (left-some placed c (k + 1))
  where
    go : Either (is_one_of placed k) → (0 < left_of placed (range_with_len (k + 1) c) → (m : ℕ) × ((k + 1) ≤ m) × (m < (k + 1) + c) × (is_one_of placed m ≡ false)) → (m : ℕ) × (k ≤ m) × (m < k + suc c) × (is_one_of placed m ≡ false)
    go (inl o) later =
        let more = rw o at h in
        let w = later (omega arith) in
        (w.0, (let a = w.1 in omega arith), (let b = w.2 in omega arith), w.3)
    go (inr o) _ = (k, omega arith, omega arith, o)
