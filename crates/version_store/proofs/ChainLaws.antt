-- Laws of what is read from a chain.
use Rattle.std.proofs.Common.{◌≡◌, ℕ, zero, suc, ◌+◌, ◌-◌, ◌<◌, ◌≤◌, true, false, List, [], ◌∷◌, length, refl, ap, sym, ◌∙◌, cond, arith, leb, get_or}
use Rattle.std.specs.Prelude.{ℤ, Option, Some, None, slice_get}
use Rattle.version_store.specs.Reading.{version_number, IsCutAt, value_after, last_number_or}
use Rattle.version_store.proofs.RisingLaws.{cut_rest, cut_none}

-- ---- the last one

last_number_or-at : (before : ℕ) (ms : List ℕ) (n m : ℕ) → n + 1 ≡ length ms → Some m ≡ slice_get ms n → m ≡ last_number_or before ms
last_number_or-at before [] n m end found = absurd (omega arith)
last_number_or-at before (x ∷ []) zero m end found = cc
last_number_or-at before (x ∷ []) (suc n) m end found = absurd (omega arith)
last_number_or-at before (x ∷ y ∷ ms) zero m end found = absurd (omega arith)
last_number_or-at before (x ∷ y ∷ ms) (suc n) m end found = last_number_or-at x (y ∷ ms) n m (omega arith) found

-- what `last` of numbers answers
pub last_number_or-is : (before : ℕ) (ms : List ℕ) (m : ℕ) → Some m ≡ slice_get ms (length ms - 1) → m ≡ last_number_or before ms
last_number_or-is before [] m found = absurd (cc)
last_number_or-is before (x ∷ ms) m found = last_number_or-at before (x ∷ ms) (length (x ∷ ms) - 1) m (omega arith) found

-- ---- the bisection

-- where all are above n, nothing changes
pub value_after-none : (n : ℕ) (before : Option ℤ) (vs : List (ℕ × Option ℤ)) → IsCutAt n vs 0 → before ≡ value_after n before vs
value_after-none n before [] cut = refl
value_after-none n before (v ∷ vs) cut =
    let above : leb v.0 n ≡ false = cut.1 0 v (omega arith) (omega arith) in
    value_after-none n before vs (cut_none version_number n v vs cut) ∙ ap (λ b. value_after n (cond b v.1 before) vs) (sym above)

-- the last of those that are at most n counts
pub value_after-at : (n : ℕ) (before : Option ℤ) (vs : List (ℕ × Option ℤ)) (j : ℕ) (d : ℕ × Option ℤ) → IsCutAt n vs (suc j) → j < length vs → (get_or vs j d).1 ≡ value_after n before vs
value_after-at n before [] j d cut within = absurd (omega arith)
value_after-at n before (v ∷ vs) zero d cut within =
    let here : leb v.0 n ≡ true = cut.0 0 v (omega arith) (omega arith) in
    value_after-none n v.1 vs (cut_rest version_number n v vs 0 cut) ∙ ap (λ b. value_after n (cond b v.1 before) vs) (sym here)
value_after-at n before (v ∷ vs) (suc j) d cut within =
    let here : leb v.0 n ≡ true = cut.0 0 v (omega arith) (omega arith) in
    value_after-at n v.1 vs j d (cut_rest version_number n v vs (suc j) cut) (omega arith) ∙ ap (λ b. value_after n (cond b v.1 before) vs) (sym here)

-- what is read where no version is at most n, and where some are
pub read_none : (n : ℕ) (vs : List (ℕ × Option ℤ)) (r : ℕ) → IsCutAt n vs r → r ≡ 0 → None ≡ value_after n None vs
read_none n vs zero cut none = value_after-none n None vs cut
read_none n vs (suc j) cut none = absurd (omega arith)

pub read_last : (n : ℕ) (vs : List (ℕ × Option ℤ)) (r : ℕ) (d : ℕ × Option ℤ) → IsCutAt n vs r → (r ≡ 0 → ⊥) → r ≤ length vs → (get_or vs (r - 1) d).1 ≡ value_after n None vs
read_last n vs zero d cut some within = absurd (some refl)
read_last n vs (suc j) d cut some within =
    let place : suc j - 1 ≡ j = omega arith in
    ap (λ k. (get_or vs k d).1) place ∙ value_after-at n None vs j d cut (omega arith)
