-- Cycles: cut out of a walk, read forward, and turned.
use Rattle.std.proofs.Common.{◌≡◌, ◌≢◌, ℕ, ◌+◌, ◌<◌, ◌≤◌, Bool, true, false, List, [], ◌∷◌, ◌++◌, length, take, drop, get_or, reverse, inl, inr, refl, sym, ap, ◌∙◌, subst, arith, nat_lt, take-append-drop, if◌then◌else◌}
use Rattle.std.specs.List.{IsFirstBest}
use Rattle.std.proofs.lemmas.Bool.{cases_Bool}
use Rattle.std.proofs.lemmas.Bool.Decides.{nat_tests, eqb_tells}
use Rattle.std.proofs.lemmas.List.{append-nil, drop_more, reverse-append, get_or_default}
use Rattle.serial_orders.specs.Orders.{is_one_of, LeadsTo, IsOnce, IsCycle}
use Rattle.serial_orders.specs.Placing.{times, IsWalk}
use Rattle.serial_orders.proofs.NumberLists.{Same, Either, one-at, one-place, one-times, none-times, times-append, times-none, times-some, times-reverse}

leads-split : (R : ℕ → ℕ → Bool) (xs : List ℕ) (y : ℕ) (ys : List ℕ) (end : ℕ) → LeadsTo R (xs ++ y ∷ ys) end → LeadsTo R xs y × LeadsTo R (y ∷ ys) end
leads-split R [] y ys end h = (tt, h)
leads-split R (x ∷ []) y ys end h = (h.0, h.1)
leads-split R (x ∷ z ∷ zs) y ys end h = let w = leads-split R (z ∷ zs) y ys end h.1 in ((h.0, w.0), w.1)

leads-join : (R : ℕ → ℕ → Bool) (xs : List ℕ) (y : ℕ) (ys : List ℕ) (end : ℕ) → LeadsTo R xs y → LeadsTo R (y ∷ ys) end → LeadsTo R (xs ++ y ∷ ys) end
leads-join R [] y ys end h t = t
leads-join R (x ∷ []) y ys end h t = (h, t)
leads-join R (x ∷ z ∷ zs) y ys end h t = (h.0, leads-join R (z ∷ zs) y ys end h.1 t)

reverse-cons : (x : ℕ) (xs : List ℕ) → reverse (x ∷ xs) ≡ reverse xs ++ x ∷ []
reverse-cons x xs = reverse-append (x ∷ []) xs

leads-reverse : (b : ℕ → ℕ → Bool) (x : ℕ) (ys : List ℕ) (z : ℕ) → LeadsTo (λ i j. b j i) (x ∷ ys) z → LeadsTo b (z ∷ reverse ys) x
leads-reverse b x [] z h = h
leads-reverse b x (y ∷ ys) z h =
    subst (λ (w : List ℕ). LeadsTo b (z ∷ w) x) (sym (reverse-cons y ys)) (leads-join b (z ∷ reverse ys) y [] x (leads-reverse b y ys z h.1) h.0)

-- each leads to the next, and the last to the first
abbrev IsClosed : (ℕ → ℕ → Bool) → List ℕ → Type 0
IsClosed b [] = Unit {0}
IsClosed b (x ∷ xs) = LeadsTo b (x ∷ xs) x

closed-turn : (b : ℕ → ℕ → Bool) (xs ys : List ℕ) → IsClosed b (xs ++ ys) → IsClosed b (ys ++ xs)
closed-turn b [] ys h = subst (λ (w : List ℕ). IsClosed b w) (sym (append-nil ys)) h
closed-turn b (x ∷ xs) [] h = subst (λ (w : List ℕ). IsClosed b w) (append-nil (x ∷ xs)) h
closed-turn b (x ∷ xs) (y ∷ ys) h = let w = leads-split b (x ∷ xs) y ys x h in leads-join b (y ∷ ys) x xs y w.1 w.0

once-times : (xs : List ℕ) → ((n : ℕ) → times n xs ≤ 1) → IsOnce xs
once-times [] h = tt
once-times (x ∷ xs) h = (none-times x xs none, once-times xs (λ n. let a = h n in omega arith))
  where
    none : times x xs ≡ 0
    none = go (eqb_tells x x) (h x)
      where
        go : Same x x → times x (x ∷ xs) ≤ 1 → times x xs ≡ 0
        go (inl e) a = let z = rw e.0 at a in omega arith
        go (inr e) a = absurd (e.1 refl)

-- a closed list without a number twice, its least first
module _ (b : ℕ → ℕ → Bool) (r : List ℕ) (k : ℕ) (closed : IsClosed b r) (once : (n : ℕ) → times n r ≤ 1) (best : IsFirstBest nat_lt r (length r) k) where
  abbrev first : ℕ
  first = get_or r k 0

  abbrev rest : List ℕ
  rest = drop (k + 1) r ++ take k r

  turned : drop k r ++ take k r ≡ first ∷ rest
  turned = ap (λ (w : List ℕ). w ++ take k r) (drop_more r k 0 best.0)

  same-times : (n : ℕ) → times n (drop k r ++ take k r) ≡ times n r
  same-times n =
      let a = times-append n (drop k r) (take k r) in
      let d = times-append n (take k r) (drop k r) in
      let e = ap (times n) (take-append-drop k r) in
      omega arith

  above : (m : ℕ) → is_one_of rest m ≡ true → first < m
  above m one = go (eqb_tells first m)
    where
      some : 0 < times m rest
      some = times-some m rest one

      all : times m (first ∷ rest) ≡ times m r
      all = ap (times m) (sym turned) ∙ same-times m

      go : Same first m → first < m
      go (inl e) = let a = rw e.0 at all in let o = once m in let s = some in absurd (omega arith)
      go (inr e) = least e.1
        where
          least : first ≢ m → first < m
          least apart =
              let a = rw e.0 at all in
              let s = some in
              let w = one-place r m (one-times m r (omega arith)) in
              let no = rw w.2 at (best.1 w.0 0 w.1) in
              grind (arith, nat_tests)

  pub closed-cycle : IsCycle b (drop k r ++ take k r)
  closed-cycle = record {
    first = first;
    rest = rest;
    is = turned;
    leads = subst (λ (w : List ℕ). LeadsTo b w first) (sym turned) (subst (λ (w : List ℕ). IsClosed b w) turned (closed-turn b (take k r) (drop k r) (subst (λ (w : List ℕ). IsClosed b w) (sym (take-append-drop k r)) closed)));
    least = λ j d h. subst (λ m. first < m) (get_or_default rest j 0 d h) (above (get_or rest j 0) (one-at rest j 0 h));
    once = once-times rest (λ n. let o = once n in let a = ap (times n) (sym turned) ∙ same-times n in omega arith);
  }

pub walk-cycle : (b : ℕ → ℕ → Bool) (walk : List ℕ) (again start k : ℕ) → IsWalk b walk again → start < length walk → get_or walk start 0 ≡ again
    → IsFirstBest nat_lt (reverse (drop start walk)) (length (reverse (drop start walk))) k
    → IsCycle b (drop k (reverse (drop start walk)) ++ take k (reverse (drop start walk)))
walk-cycle b walk again start k is inside there best = closed-cycle b (reverse (drop start walk)) k closed once best
  where
    after : List ℕ
    after = drop (start + 1) walk

    part : drop start walk ≡ again ∷ drop (start + 1) walk
    part = drop_more walk start 0 inside ∙ ap (λ n. n ∷ drop (start + 1) walk) there

    led : LeadsTo (λ i j. b j i) (again ∷ drop (start + 1) walk) again
    led =
        (leads-split (λ i j. b j i) (take start walk) again (drop (start + 1) walk) again
        (subst (λ (w : List ℕ). LeadsTo (λ i j. b j i) w again) (sym (take-append-drop start walk) ∙ ap (λ (w : List ℕ). take start walk ++ w) part) is.leads)).1

    closed : IsClosed b (reverse (drop start walk))
    closed =
        subst (λ (w : List ℕ). IsClosed b w) (sym (ap reverse part ∙ reverse-cons again (drop (start + 1) walk)))
        (closed-turn b (again ∷ []) (reverse (drop (start + 1) walk)) (leads-reverse b again (drop (start + 1) walk) again led))

    once : (n : ℕ) → times n (reverse (drop start walk)) ≤ 1
    once n =
        let a = times-reverse n (drop start walk) in
        let d = times-append n (take start walk) (drop start walk) in
        let e = ap (times n) (take-append-drop start walk) in
        let o = is.once n in
        omega arith

-- ---- one more step of a walk

pub walk-new : (led cur walk : List ℕ) (at : ℕ) → ((n : ℕ) → get_or cur n 0 ≡ (if is_one_of walk n then 0 else get_or led n 0)) → 0 < get_or cur at 0 → is_one_of walk at ≡ false
walk-new led cur walk at kept more = go (cases_Bool (is_one_of walk at))
  where
    go : Either (is_one_of walk at) → is_one_of walk at ≡ false
    go (inl o) = let z = rw o at (kept at) in absurd (omega arith)
    go (inr o) = o

pub walk-same : (led cur walk : List ℕ) (at : ℕ) → ((n : ℕ) → get_or cur n 0 ≡ (if is_one_of walk n then 0 else get_or led n 0)) → 0 < get_or cur at 0 → get_or cur at 0 ≡ get_or led at 0
walk-same led cur walk at kept more = rw (walk-new led cur walk at kept more) at (kept at)

pub walk-once : (walk : List ℕ) (at : ℕ) → is_one_of walk at ≡ false → ((n : ℕ) → times n walk ≤ 1) → (n : ℕ) → times n (walk ++ at ∷ []) ≤ 1
walk-once walk at new once n = go (eqb_tells at n) (times-append n walk (at ∷ [])) (once n)
  where
    go : Same at n → times n (walk ++ at ∷ []) ≡ times n walk + times n (at ∷ []) → times n walk ≤ 1 → times n (walk ++ at ∷ []) ≤ 1
    go (inl e) a o =
        let z = rw e.0 at a in
        let none = times-none n walk (subst (λ m. is_one_of walk m ≡ false) e.1 new) in
        omega arith
    go (inr e) a o = let z = rw e.0 at a in omega arith

pub walk-leads : (R : ℕ → ℕ → Bool) (walk : List ℕ) (at next : ℕ) → LeadsTo R walk at → R at next ≡ true → LeadsTo R (walk ++ at ∷ []) next
walk-leads R walk at next h on = leads-join R walk at [] next h on
