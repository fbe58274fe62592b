-- For how many each number waits, as numbers are placed.
use Rattle.std.proofs.Common.{◌≡◌, ◌≢◌, ℕ, zero, suc, ◌+◌, ◌<◌, ◌==◌, ◌||◌, Bool, true, false, not, List, [], ◌∷◌, ◌++◌, length, get_or, inl, inr, refl, ap, ◌∙◌, subst, arith}
use Rattle.std.specs.List.{list_all, range_with_len}
use Rattle.std.proofs.lemmas.Bool.{eq-eqb, cases_Bool}
use Rattle.std.proofs.lemmas.Bool.Decides.{nat_tests, eqb_tells}
use Rattle.serial_orders.specs.Orders.{is_one_of}
use Rattle.serial_orders.specs.Placing.{times, waits_from}
use Rattle.serial_orders.proofs.NumberLists.{Same, Either, one-push, times-none, times-some}

one-other : (placed : List ℕ) (p k : ℕ) → p ≢ k → is_one_of (placed ++ p ∷ []) k ≡ is_one_of placed k
one-other placed p k apart = one-push placed p k ∙ go (eqb_tells p k) (cases_Bool (is_one_of placed k))
  where
    go : Same p k → Either (is_one_of placed k) → (is_one_of placed k || p == k) ≡ is_one_of placed k
    go (inl e) _ = absurd (apart e.1)
    go (inr e) (inl o) = rw o refl
    go (inr e) (inr o) = rw o e.0

pub one-last : (placed : List ℕ) (p : ℕ) → is_one_of (placed ++ p ∷ []) p ≡ true
one-last placed p = one-push placed p p ∙ go (cases_Bool (is_one_of placed p)) (eq-eqb p p refl)
  where
    go : Either (is_one_of placed p) → (p == p) ≡ true → (is_one_of placed p || p == p) ≡ true
    go (inl o) e = rw o refl
    go (inr o) e = rw (o, e) refl

waits-before : (lists : List (List ℕ)) (k p : ℕ) (placed : List ℕ) (n : ℕ) → p < k → waits_from k lists (placed ++ p ∷ []) n ≡ waits_from k lists placed n
waits-before [] k p placed n h = refl
waits-before (list ∷ lists) k p placed n h =
    let later = waits-before lists (k + 1) p placed n (omega arith) in
    let apart : p ≢ k = λ e. absurd (omega arith) in
    rw (one-other placed p k apart, later) refl

-- one more is placed: none waits for it any more
pub waits-placed : (lists : List (List ℕ)) (k j p : ℕ) (placed : List ℕ) (n : ℕ) → p ≡ k + j → j < length lists → is_one_of placed p ≡ false
    → waits_from k lists (placed ++ p ∷ []) n + times n (get_or lists j []) ≡ waits_from k lists placed n
waits-placed [] k j p placed n e h new = absurd (omega arith)
waits-placed (list ∷ lists) k zero p placed n e h new =
    let same : p ≡ k = omega arith in
    let last : is_one_of (placed ++ p ∷ []) k ≡ true = subst (λ m. is_one_of (placed ++ p ∷ []) m ≡ true) same (one-last placed p) in
    let fresh : is_one_of placed k ≡ false = subst (λ m. is_one_of placed m ≡ false) same new in
    let later = waits-before lists (k + 1) p placed n (omega arith) in
    rw (last, fresh, later) (omega arith)
waits-placed (list ∷ lists) k (suc j) p placed n e h new =
    let apart : p ≢ k = λ s. absurd (omega arith) in
    let later = waits-placed lists (k + 1) j p placed n (omega arith) (omega arith) new in
    rw (one-other placed p k apart) (omega arith)

pub waits-some : (lists : List (List ℕ)) (k : ℕ) (placed : List ℕ) (n : ℕ) → waits_from k lists placed n ≢ 0
    → (j : ℕ) × (j < length lists) × (is_one_of placed (k + j) ≡ false) × (is_one_of (get_or lists j []) n ≡ true)
waits-some [] k placed n h = absurd (h refl)
waits-some (list ∷ lists) k placed n h = go (cases_Bool (is_one_of placed k)) (cases_Bool (is_one_of list n)) (waits-some lists (k + 1) placed n)
  where
    further : ((j : ℕ) × (j < length lists) × (is_one_of placed ((k + 1) + j) ≡ false) × (is_one_of (get_or lists j []) n ≡ true)) → (j : ℕ) × (j < length (list ∷ lists)) × (is_one_of placed (k + j) ≡ false) × (is_one_of (get_or (list ∷ lists) j []) n ≡ true)
    further w =
        let e : (k + 1) + w.0 ≡ k + suc w.0 = omega arith in
        (suc w.0, (let l = w.1 in omega arith), subst (λ m. is_one_of placed m ≡ false) e w.2, w.3)

    go : Either (is_one_of placed k) → Either (is_one_of list n)
        → (waits_from (k + 1) lists placed n ≢ 0 → (j : ℕ) × (j < length lists) × (is_one_of placed ((k + 1) + j) ≡ false) × (is_one_of (get_or lists j []) n ≡ true))
        → (j : ℕ) × (j < length (list ∷ lists)) × (is_one_of placed (k + j) ≡ false) × (is_one_of (get_or (list ∷ lists) j []) n ≡ true)
    go (inl o) _ later = further (later (λ z. rw o at h (omega arith)))
    go (inr o) (inl t) later = (0, omega arith, (let e : k ≡ k + 0 = omega arith in subst (λ m. is_one_of placed m ≡ false) e o), t)
    go (inr o) (inr t) later = let none = times-none n list t in further (later (λ z. rw o at h (omega arith)))

-- all that have to stand before a number are placed where it waits for none
pub all-placed : (before : ℕ → ℕ → Bool) (lists : List (List ℕ)) (k : ℕ) (placed : List ℕ) (n : ℕ) → ((j : ℕ) → j < length lists → before (k + j) n ≡ is_one_of (get_or lists j []) n)
    → list_all (λ i. not (before i n) || is_one_of placed i) (range_with_len k (length lists)) ≡ (waits_from k lists placed n == 0)
all-placed before [] k placed n same = refl
all-placed before (list ∷ lists) k placed n same =
    let later = all-placed before lists (k + 1) placed n (λ j h. let e : k + suc j ≡ (k + 1) + j = omega arith in subst (λ m. before m n ≡ is_one_of (get_or lists j []) n) e (same (suc j) (omega arith))) in
    go (cases_Bool (is_one_of placed k)) (cases_Bool (is_one_of list n)) later here
  where
    here : before k n ≡ is_one_of list n
    here = let e : k + 0 ≡ k = omega arith in subst (λ m. before m n ≡ is_one_of list n) e (same 0 (omega arith))

    go : Either (is_one_of placed k) → Either (is_one_of list n)
        → list_all (λ i. not (before i n) || is_one_of placed i) (range_with_len (k + 1) (length lists)) ≡ (waits_from (k + 1) lists placed n == 0)
        → before k n ≡ is_one_of list n
        → list_all (λ i. not (before i n) || is_one_of placed i) (range_with_len k (length (list ∷ lists))) ≡ (waits_from k (list ∷ lists) placed n == 0)
    go (inl o) (inl t) l b = rw (b, o, t) (l ∙ (let e : waits_from (k + 1) lists placed n ≡ 0 + waits_from (k + 1) lists placed n = omega arith in ap (λ m. m == 0) e))
    go (inl o) (inr t) l b = rw (b, o, t) (l ∙ (let e : waits_from (k + 1) lists placed n ≡ 0 + waits_from (k + 1) lists placed n = omega arith in ap (λ m. m == 0) e))
    go (inr o) (inl t) l b = let some = times-some n list t in rw (b, o, t) (grind (arith, nat_tests))
    go (inr o) (inr t) l b = let none = times-none n list t in rw (b, o, t) (l ∙ (let e : waits_from (k + 1) lists placed n ≡ times n list + waits_from (k + 1) lists placed n = omega arith in ap (λ m. m == 0) e))
