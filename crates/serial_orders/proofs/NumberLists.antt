-- Whether, and how many times, a number stands in a list.
use Rattle.std.proofs.Common.{Some, ◌≡◌, ◌≢◌, ℕ, zero, suc, ◌+◌, ◌<◌, ◌≤◌, ◌==◌, ◌&&◌, ◌||◌, Bool, true, false, List, [], ◌∷◌, ◌++◌, length, take, drop, get_or, set, reverse, ◌⊎◌, inl, inr, refl, sym, ap, ◌∙◌, subst, arith, nat_cmp, nat_lt, if◌then◌else◌, All}
use Rattle.std.proofs.Math.Bool.{or_assoc, or_comm, or_self_left}
use Rattle.std.proofs.lemmas.Bool.{eq-eqb, cases_Bool, cases_lt, false≢true}
use Rattle.std.proofs.lemmas.Bool.Decides.{nat_tests, eqb_tells}
use Rattle.std.proofs.lemmas.List.{get_or_past, take_all, take-append-le, take_more, drop_more, reverse-append, get_or-set_same, get_or-set_other}
use Rattle.std.proofs.lemmas.List.Recursion.{or_at, or_push}
use Rattle.std.specs.BTreeSet.{insert_key}
use Rattle.std.specs.BTreeMap.Range.{IsLtBy}
use Rattle.std.specs.Prelude.{slice_get}
use Rattle.std.proofs.lemmas.Option.{slice_get_within, get_or_from_slice_get}
use Rattle.serial_orders.specs.Orders.{is_one_of}
use Rattle.serial_orders.specs.Placing.{times}

-- two numbers are the same, or not, as their test says
abbrev pub Same : ℕ → ℕ → Type 0
Same m n = (((m == n) ≡ true) × (m ≡ n)) ⊎ (((m == n) ≡ false) × (m ≢ n))

-- a test is passed or not
abbrev pub Either : Bool → Type 0
Either test = (test ≡ true) ⊎ (test ≡ false)

pub one-at : (xs : List ℕ) (k d : ℕ) → k < length xs → is_one_of xs (get_or xs k d) ≡ true
one-at xs k d h =
    or_at (λ ns. is_one_of ns (get_or xs k d)) (λ m. m == get_or xs k d) refl (λ _ _. refl) xs k d h (eq-eqb _ _ refl)

pub one-push : (xs : List ℕ) (y n : ℕ) → is_one_of (xs ++ y ∷ []) n ≡ (is_one_of xs n || y == n)
one-push xs y n = or_push (λ ns. is_one_of ns n) (λ m. m == n) refl (λ _ _. refl) xs y

pub one-more : (xs : List ℕ) (i n : ℕ) → i < length xs → is_one_of (take (i + 1) xs) n ≡ (is_one_of (take i xs) n || get_or xs i 0 == n)
one-more xs i n h = ap (λ ns. is_one_of ns n) (take_more xs i 0 h) ∙ one-push (take i xs) (get_or xs i 0) n

pub one-get : (xs : List ℕ) (k n : ℕ) → slice_get xs k ≡ Some n → is_one_of xs n ≡ true
one-get xs k n h =
    subst (λ m. is_one_of xs m ≡ true) (get_or_from_slice_get xs k n 0 h) (one-at xs k 0 (slice_get_within xs k n h))

pub one-below : (xs : List ℕ) (bound k : ℕ) → ((n : ℕ) → is_one_of xs n ≡ true → n < bound) → k < length xs → get_or xs k 0 < bound
one-below xs bound k h inside = h (get_or xs k 0) (one-at xs k 0 inside)

pub one-place : (xs : List ℕ) (n : ℕ) → is_one_of xs n ≡ true → (k : ℕ) × (k < length xs) × (get_or xs k 0 ≡ n)
one-place [] n h = absurd (false≢true h)
one-place (x ∷ xs) n h = go (eqb_tells x n) (one-place xs n)
  where
    go : Same x n → (is_one_of xs n ≡ true → (k : ℕ) × (k < length xs) × (get_or xs k 0 ≡ n)) → (k : ℕ) × (k < length (x ∷ xs)) × (get_or (x ∷ xs) k 0 ≡ n)
    go (inl e) later = (0, omega arith, e.1)
    go (inr e) later = let w = later (rw e.0 at h) in (suc w.0, (let l = w.1 in omega arith), w.2)

-- ---- times

pub times-append : (n : ℕ) (xs ys : List ℕ) → times n (xs ++ ys) ≡ times n xs + times n ys
times-append n [] ys = omega arith
times-append n (x ∷ xs) ys = let e = times-append n xs ys in omega arith

pub times-most : (n : ℕ) (xs : List ℕ) → times n xs ≤ length xs
times-most n [] = omega arith
times-most n (x ∷ xs) = go (cases_Bool (x == n)) (times-most n xs)
  where
    go : Either (x == n) → times n xs ≤ length xs → times n (x ∷ xs) ≤ length (x ∷ xs)
    go (inl e) rest = rw e (omega arith)
    go (inr e) rest = rw e (omega arith)

pub times-reverse : (n : ℕ) (xs : List ℕ) → times n (reverse xs) ≡ times n xs
times-reverse n [] = refl
times-reverse n (x ∷ xs) =
    let e = times-reverse n xs in
    let a = times-append n (reverse xs) (x ∷ []) in
    ap (times n) (reverse-append (x ∷ []) xs) ∙ omega arith

pub times-none : (n : ℕ) (xs : List ℕ) → is_one_of xs n ≡ false → times n xs ≡ 0
times-none n [] h = refl
times-none n (x ∷ xs) h = go (cases_Bool (x == n)) (times-none n xs)
  where
    go : Either (x == n) → (is_one_of xs n ≡ false → times n xs ≡ 0) → times n (x ∷ xs) ≡ 0
    go (inl e) later = absurd (false≢true (sym (rw e at h)))
    go (inr e) later = let l = later (rw e at h) in rw e (omega arith)

pub times-some : (n : ℕ) (xs : List ℕ) → is_one_of xs n ≡ true → 0 < times n xs
times-some n [] h = absurd (false≢true h)
times-some n (x ∷ xs) h = go (cases_Bool (x == n)) (times-some n xs)
  where
    go : Either (x == n) → (is_one_of xs n ≡ true → 0 < times n xs) → 0 < times n (x ∷ xs)
    go (inl e) later = rw e (omega arith)
    go (inr e) later = let l = later (rw e at h) in rw e (omega arith)

pub one-times : (n : ℕ) (xs : List ℕ) → 0 < times n xs → is_one_of xs n ≡ true
one-times n xs h = go (cases_Bool (is_one_of xs n))
  where
    go : Either (is_one_of xs n) → is_one_of xs n ≡ true
    go (inl e) = e
    go (inr e) = let z = times-none n xs e in absurd (omega arith)

pub none-times : (n : ℕ) (xs : List ℕ) → times n xs ≡ 0 → is_one_of xs n ≡ false
none-times n xs h = go (cases_Bool (is_one_of xs n))
  where
    go : Either (is_one_of xs n) → is_one_of xs n ≡ false
    go (inl e) = let z = times-some n xs e in absurd (omega arith)
    go (inr e) = e

pub times-here : (xs : List ℕ) (k : ℕ) → k < length xs → 0 < times (get_or xs k 0) (drop k xs)
times-here xs k h = times-some (get_or xs k 0) (drop k xs) (rw (drop_more xs k 0 h) (rw (eq-eqb (get_or xs k 0) (get_or xs k 0) refl) refl))

-- ---- marks

pub write-push : (old cur marked : List ℕ) (p number : ℕ) → p < length cur
    → ((n : ℕ) → get_or cur n 0 ≡ (if is_one_of marked n then number else get_or old n 0))
    → (n : ℕ) → get_or (set cur p number) n 0 ≡ (if is_one_of (marked ++ p ∷ []) n then number else get_or old n 0)
write-push old cur marked p number within is n = rw (one-push marked p n) (go (cases_Bool (is_one_of marked n)) (eqb_tells p n))
  where
    go : Either (is_one_of marked n) → Same p n
        → get_or (set cur p number) n 0 ≡ (if is_one_of marked n || p == n then number else get_or old n 0)
    go (inl o) (inl e) = rw o (subst (λ m. get_or (set cur p number) m 0 ≡ number) e.1 (get_or-set_same cur p number 0 within))
    go (inr o) (inl e) = rw (o, e.0) (subst (λ m. get_or (set cur p number) m 0 ≡ number) e.1 (get_or-set_same cur p number 0 within))
    go (inl o) (inr e) = rw o (get_or-set_other cur p n number 0 (λ s. e.1 (sym s)) ∙ rw o at (is n))
    go (inr o) (inr e) = rw (o, e.0) (get_or-set_other cur p n number 0 (λ s. e.1 (sym s)) ∙ rw o at (is n))

pub write-step : (old cur places : List ℕ) (i number : ℕ) → i < length places → get_or places i 0 < length cur
    → ((n : ℕ) → get_or cur n 0 ≡ (if is_one_of (take i places) n then number else get_or old n 0))
    → (n : ℕ) → get_or (set cur (get_or places i 0) number) n 0 ≡ (if is_one_of (take (i + 1) places) n then number else get_or old n 0)
write-step old cur places i number inside within is n =
    rw (take_more places i 0 inside) (write-push old cur (take i places) (get_or places i 0) number within is n)

-- ---- the keys of a set

pub one-insert : (keys : List ℕ) (k n : ℕ) → is_one_of (insert_key nat_cmp keys k) n ≡ (is_one_of keys n || k == n)
one-insert [] k n = or_comm (k == n) false
one-insert (x ∷ xs) k n = go (cases_Bool (nat_lt k x)) (eqb_tells k x) (one-insert xs k n)
  where
    go : Either (nat_lt k x) → Same k x → is_one_of (insert_key nat_cmp xs k) n ≡ (is_one_of xs n || k == n)
        → is_one_of (insert_key nat_cmp (x ∷ xs) k) n ≡ (is_one_of (x ∷ xs) n || k == n)
    go (inl l) _ e = rw l (or_comm (k == n) (is_one_of (x ∷ xs) n))
    go (inr l) (inl s) e = rw (l, s.0) (subst (λ m. is_one_of (x ∷ xs) n ≡ (is_one_of (x ∷ xs) n || m == n)) (sym s.1) (sym (or_self_left (x == n) (is_one_of xs n)) ∙ or_comm (x == n) (is_one_of (x ∷ xs) n)))
    go (inr l) (inr s) e = rw (l, s.0) (ap (λ b. (x == n) || b) e ∙ sym (or_assoc (x == n) (is_one_of xs n) (k == n)))

pub above-all : (keys : List ℕ) (k n : ℕ) → All (IsLtBy nat_cmp k) keys → is_one_of keys n ≡ true → k < n
above-all keys k n h one =
    let w = one-place keys n one in
    let less = rw w.2 at (h w.0 0 w.1) in
    grind (arith, nat_tests)

and-or : (o b d z : Bool) → z ≡ true → ((o || (b && z)) || d) ≡ (o || ((b || d) && z))
and-or true b d z h = refl
and-or false true d z h = rw h refl
and-or false false true z h = rw h refl
and-or false false false z h = refl

-- a set has besides what it had those of the first numbers that pass a test
module _ (test : ℕ → Bool) (old keys numbers : List ℕ) (i : ℕ) where
  pub more-yes : i < length numbers → test (get_or numbers i 0) ≡ true
      → ((n : ℕ) → is_one_of keys n ≡ (is_one_of old n || (is_one_of (take i numbers) n && test n)))
      → (n : ℕ) → is_one_of (insert_key nat_cmp keys (get_or numbers i 0)) n ≡ (is_one_of old n || (is_one_of (take (i + 1) numbers) n && test n))
  more-yes inside passes is n = one-insert keys (get_or numbers i 0) n ∙ rw (is n, one-more numbers i n inside) (go (eqb_tells (get_or numbers i 0) n) (cases_Bool (is_one_of old n)) (cases_Bool (is_one_of (take i numbers) n)))
    where
      go : Same (get_or numbers i 0) n
          → Either (is_one_of old n) → Either (is_one_of (take i numbers) n)
          → ((is_one_of old n || (is_one_of (take i numbers) n && test n)) || get_or numbers i 0 == n) ≡ (is_one_of old n || ((is_one_of (take i numbers) n || get_or numbers i 0 == n) && test n))
      go (inl e) _ _ = and-or (is_one_of old n) (is_one_of (take i numbers) n) (get_or numbers i 0 == n) (test n) (subst (λ m. test m ≡ true) e.1 passes)
      go (inr e) (inl o) _ = rw o refl
      go (inr e) (inr o) (inl t) = rw (o, t, e.0) (or_comm (test n) false)
      go (inr e) (inr o) (inr t) = rw (o, t, e.0) refl

  pub more-no : i < length numbers → test (get_or numbers i 0) ≡ false
      → ((n : ℕ) → is_one_of keys n ≡ (is_one_of old n || (is_one_of (take i numbers) n && test n)))
      → (n : ℕ) → is_one_of keys n ≡ (is_one_of old n || (is_one_of (take (i + 1) numbers) n && test n))
  more-no inside fails is n = is n ∙ rw (one-more numbers i n inside) (go (eqb_tells (get_or numbers i 0) n) (cases_Bool (is_one_of old n)) (cases_Bool (is_one_of (take i numbers) n)))
    where
      go : Same (get_or numbers i 0) n
          → Either (is_one_of old n) → Either (is_one_of (take i numbers) n)
          → (is_one_of old n || (is_one_of (take i numbers) n && test n)) ≡ (is_one_of old n || ((is_one_of (take i numbers) n || get_or numbers i 0 == n) && test n))
      go _ (inl o) _ = rw o refl
      go _ (inr o) (inl t) = rw (o, t) refl
      go (inl e) (inr o) (inr t) = let z : test n ≡ false = subst (λ m. test m ≡ false) e.1 fails in rw (o, t, e.0) (sym z)
      go (inr e) (inr o) (inr t) = rw (o, t, e.0) refl

-- what a call wrote into the whole of a list
pub written : {X : Type 0} (len : ℕ) (new old : List X) → len ≡ length old → length new ≡ length old → take len (new ++ drop (length new) old) ≡ new
written {X} len new old e h = rw (e, ← h) (take-append-le (length new) new (drop (length new) old) (omega arith) ∙ take_all (length new) new (omega arith))

pub inside-nonzero : (xs : List ℕ) (k : ℕ) → get_or xs k 0 ≢ 0 → k < length xs
inside-nonzero xs k h = go (cases_lt k (length xs))
  where
    go : (k < length xs) ⊎ (length xs ≤ k) → k < length xs
    go (inl l) = l
    go (inr l) = absurd (h (get_or_past xs k 0 l))

pub none-left : (len : ℕ) → (0 < len → false ≡ true) → len ≤ 0
none-left zero h = omega arith
none-left (suc n) h = absurd (false≢true (h (omega arith)))
