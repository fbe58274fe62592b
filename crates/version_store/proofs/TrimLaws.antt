-- Laws of what a vacuum leaves of one cell.
use Rattle.std.proofs.Common.{◌≡◌, ◌∙◌, ℕ, ℤ, zero, suc, ◌+◌, ◌<◌, ◌≤◌, max, Bool, true, false, cond, if◌then◌else◌, leb, nat_lt, List, [], ◌∷◌, ◌++◌, length, take, drop, get_or, drop-cons, drop_of_length-le, add-one, refl, ap, sym, subst, arith, append_assoc, append-nil}
use Rattle.std.specs.Prelude.{Option, Some, None, is_some, filter, not}
use Rattle.std.specs.List.{prefix_len}
use Rattle.std.proofs.Math.Numerals.{one-add}
use Rattle.std.proofs.lemmas.Bool.{le-leb, lt-leb}
use Rattle.std.proofs.lemmas.Bool.Decides.{nat_tests}
use Rattle.std.proofs.lemmas.List.Filters.{length-filter_both}
use Rattle.version_store.specs.Reading.{version_number, RisesFrom, value_after, value_at, version_numbers, last_number_or, last_number, IsBelow}
use Rattle.version_store.specs.StandsFor.{VersionChain, trimmed}
use Rattle.version_store.proofs.RisingLaws.{rises_more}
use Rattle.version_store.specs.Trimming.{shown, versions_kept, marks_kept}

-- ---- a version that is held

-- nothing, or one version that is at most n and no removal
abbrev pub IsHeld : ℕ → List (ℕ × Option ℤ) → Type 0
IsHeld n held = (m : ℕ) → n ≤ m → (vs : List (ℕ × Option ℤ)) → versions_kept m [] (held ++ vs) ≡ versions_kept m held vs

pub held_none : (n : ℕ) → IsHeld n []
held_none n m less vs = refl

pub held_shown : (n k : ℕ) (o : Option ℤ) → k ≤ n → IsHeld n (shown k o)
held_shown n k None low m less vs = refl
held_shown n k (Some v) low m less vs = ap (λ b. cond b (versions_kept m ((k, Some v) ∷ []) vs) ((k, Some v) ∷ vs)) (le-leb k m (omega arith))

-- ---- a later vacuum

-- a later vacuum leaves what it would have left without the earlier one
pub kept_again : (f g : ℕ) → f ≤ g → (held vs : List (ℕ × Option ℤ)) → IsHeld f held → versions_kept g [] (versions_kept f held vs) ≡ versions_kept g held vs
kept_again f g less held [] is = ap (versions_kept g []) (sym (append-nil held)) ∙ is g less []
kept_again f g less held (v ∷ vs) is = go (leb v.0 f) refl (λ low. kept_again f g less (shown v.0 v.1) vs (held_shown f v.0 v.1 low))
  where
    go : (b : Bool) → leb v.0 f ≡ b → (v.0 ≤ f → versions_kept g [] (versions_kept f (shown v.0 v.1) vs) ≡ versions_kept g (shown v.0 v.1) vs) → versions_kept g [] (cond b (versions_kept f (shown v.0 v.1) vs) (held ++ v ∷ vs)) ≡ versions_kept g held (v ∷ vs)
    go true low rest =
        let order : v.0 ≤ f = grind (arith, nat_tests) in
        rest order
        ∙ ap (λ b. cond b (versions_kept g (shown v.0 v.1) vs) (held ++ v ∷ vs)) (sym (le-leb v.0 g (omega arith)))
    go false above rest = is g less (v ∷ vs)

marks_again : (f g : ℕ) → f ≤ g → (ms : List ℕ) → marks_kept g (marks_kept f ms) ≡ marks_kept g ms
marks_again f g less [] = refl
marks_again f g less (m ∷ ms) = go (leb m f) refl (marks_again f g less ms)
  where
    go : (b : Bool) → leb m f ≡ b → marks_kept g (marks_kept f ms) ≡ marks_kept g ms → marks_kept g (cond b (marks_kept f ms) (m ∷ ms)) ≡ marks_kept g (m ∷ ms)
    go true low rest =
        let order : m ≤ f = grind (arith, nat_tests) in
        rest ∙ ap (λ b. cond b (marks_kept g ms) (m ∷ ms)) (sym (le-leb m g (omega arith)))
    go false above rest = refl

pub trimmed_again : (f g : ℕ) → f ≤ g → (chain : VersionChain) → trimmed g (trimmed f chain) ≡ trimmed g chain
trimmed_again f g less chain i = record { versions = kept_again f g less [] chain.versions (held_none f) i; marks = marks_again f g less chain.marks i }

-- ---- what is above the floor stays

pub kept_above : (f n : ℕ) (held vs : List (ℕ × Option ℤ)) → f < n → RisesFrom n vs → versions_kept f held vs ≡ held ++ vs
kept_above f n held [] less rises = sym (append-nil held)
kept_above f n held (v ∷ vs) less rises = ap (λ b. cond b (versions_kept f (shown v.0 v.1) vs) (held ++ v ∷ vs)) (lt-leb v.0 f (omega (arith, less, rises.0)))

-- a version above the floor is added behind
pub kept_push : (f n : ℕ) (o : Option ℤ) (held vs : List (ℕ × Option ℤ)) → f < n → versions_kept f held (vs ++ (n, o) ∷ []) ≡ versions_kept f held vs ++ (n, o) ∷ []
kept_push f n o held [] less = ap (λ b. cond b (versions_kept f (shown n o) []) (held ++ (n, o) ∷ [])) (lt-leb n f less)
kept_push f n o held (v ∷ vs) less = go (leb v.0 f) (kept_push f n o (shown v.0 v.1) vs less)
  where
    go : (b : Bool) → versions_kept f (shown v.0 v.1) (vs ++ (n, o) ∷ []) ≡ versions_kept f (shown v.0 v.1) vs ++ (n, o) ∷ [] →
        cond b (versions_kept f (shown v.0 v.1) (vs ++ (n, o) ∷ [])) (held ++ v ∷ (vs ++ (n, o) ∷ [])) ≡ cond b (versions_kept f (shown v.0 v.1) vs) (held ++ v ∷ vs) ++ (n, o) ∷ []
    go true rest = rest
    go false rest = sym (append_assoc held (v ∷ vs) ((n, o) ∷ []))

pub marks_push : (f n : ℕ) (ms : List ℕ) → f < n → marks_kept f (ms ++ n ∷ []) ≡ marks_kept f ms ++ n ∷ []
marks_push f n [] less = ap (λ b. cond b [] (n ∷ [])) (lt-leb n f less)
marks_push f n (m ∷ ms) less = go (leb m f) (marks_push f n ms less)
  where
    go : (b : Bool) → marks_kept f (ms ++ n ∷ []) ≡ marks_kept f ms ++ n ∷ [] → cond b (marks_kept f (ms ++ n ∷ [])) (m ∷ (ms ++ n ∷ [])) ≡ cond b (marks_kept f ms) (m ∷ ms) ++ n ∷ []
    go true rest = rest
    go false rest = refl

-- ---- reading from the floor on

pub value_append : (n : ℕ) (before : Option ℤ) (xs ys : List (ℕ × Option ℤ)) → value_after n before (xs ++ ys) ≡ value_after n (value_after n before xs) ys
value_append n before [] ys = refl
value_append n before (x ∷ xs) ys = value_append n (if leb x.0 n then x.1 else before) xs ys

value_shown : (n k : ℕ) (o : Option ℤ) → k ≤ n → value_after n None (shown k o) ≡ o
value_shown n k None low = refl
value_shown n k (Some v) low = ap (λ b. cond b (Some v) None) (le-leb k n low)

value_kept : (f n : ℕ) → f ≤ n → (held vs : List (ℕ × Option ℤ)) → value_after n None (versions_kept f held vs) ≡ value_after n (value_after n None held) vs
value_kept f n less held [] = refl
value_kept f n less held (v ∷ vs) = go (leb v.0 f) refl (value_kept f n less (shown v.0 v.1) vs)
  where
    go : (b : Bool) → leb v.0 f ≡ b → value_after n None (versions_kept f (shown v.0 v.1) vs) ≡ value_after n (value_after n None (shown v.0 v.1)) vs →
        value_after n None (cond b (versions_kept f (shown v.0 v.1) vs) (held ++ v ∷ vs)) ≡ value_after n (value_after n None held) (v ∷ vs)
    go true low rest =
        let order : v.0 ≤ f = grind (arith, nat_tests) in
        rest
        ∙ ap (λ x. value_after n x vs) (value_shown n v.0 v.1 (omega arith))
        ∙ ap (λ b. value_after n (cond b v.1 (value_after n None held)) vs) (sym (le-leb v.0 n (omega arith)))
    go false above rest = value_append n None held (v ∷ vs)

-- a read from the floor on sees the same
pub value_trimmed : (f n : ℕ) → f ≤ n → (chain : VersionChain) → value_at n (trimmed f chain) ≡ value_at n chain
value_trimmed f n less chain = value_kept f n less [] chain.versions

-- ---- the last number

last_held : (f n before : ℕ) (k : ℕ) (o : Option ℤ) (vs : List (ℕ × Option ℤ)) → k ≤ n → before ≤ n → max n (last_number_or before (version_numbers (shown k o ++ vs))) ≡ max n (last_number_or k (version_numbers vs))
last_held f n before k None [] low small = omega arith
last_held f n before k None (v ∷ vs) low small = refl
last_held f n before k (Some x) vs low small = refl

last_kept : (f n : ℕ) → f ≤ n → (before : ℕ) → before ≤ n → (k : ℕ) (o : Option ℤ) → k ≤ n → (vs : List (ℕ × Option ℤ)) → max n (last_number_or before (version_numbers (versions_kept f (shown k o) vs))) ≡ max n (last_number_or k (version_numbers vs))
last_kept f n less before small k o low [] = ap (λ xs. max n (last_number_or before (version_numbers xs))) (sym (append-nil (shown k o))) ∙ last_held f n before k o [] low small
last_kept f n less before small k o low (v ∷ vs) = go (leb v.0 f) refl (λ here. last_kept f n less before small v.0 v.1 here vs)
  where
    go : (b : Bool) → leb v.0 f ≡ b → (v.0 ≤ n → max n (last_number_or before (version_numbers (versions_kept f (shown v.0 v.1) vs))) ≡ max n (last_number_or v.0 (version_numbers vs))) →
        max n (last_number_or before (version_numbers (cond b (versions_kept f (shown v.0 v.1) vs) (shown k o ++ v ∷ vs)))) ≡ max n (last_number_or v.0 (version_numbers vs))
    go true here rest =
        let order : v.0 ≤ f = grind (arith, nat_tests) in
        rest (omega arith)
    go false above rest = last_held f n before k o (v ∷ vs) low small

last_marks : (f n : ℕ) → f ≤ n → (a b : ℕ) → a ≤ n → b ≤ n → (ms : List ℕ) → max n (last_number_or a (marks_kept f ms)) ≡ max n (last_number_or b ms)
last_marks f n less a b p q [] = omega arith
last_marks f n less a b p q (m ∷ ms) = go (leb m f) refl (λ low. last_marks f n less a m p low ms)
  where
    go : (t : Bool) → leb m f ≡ t → (m ≤ n → max n (last_number_or a (marks_kept f ms)) ≡ max n (last_number_or m ms)) → max n (last_number_or a (cond t (marks_kept f ms) (m ∷ ms))) ≡ max n (last_number_or m ms)
    go true low rest = let order : m ≤ f = grind (arith, nat_tests) in rest (omega arith)
    go false above rest = refl

-- the last number is the same where it is above a start from the floor on
pub last_trimmed : (f n : ℕ) → f ≤ n → (chain : VersionChain) → max n (last_number (trimmed f chain)) ≡ max n (last_number chain)
last_trimmed f n less chain =
    let versions = last_kept f n less 0 (omega arith) 0 None (omega arith) chain.versions in
    let marks = last_marks f n less 0 0 (omega arith) (omega arith) chain.marks in
    omega (arith, versions, marks)

-- ---- versions that rise

rises_shown : (k : ℕ) (o : Option ℤ) (vs : List (ℕ × Option ℤ)) → RisesFrom (k + 1) vs → RisesFrom 0 (shown k o ++ vs)
rises_shown k None vs h = rises_more version_number 0 (k + 1) vs (omega arith) h
rises_shown k (Some x) vs h = (omega arith, h)

rises_kept : (f k : ℕ) (o : Option ℤ) (vs : List (ℕ × Option ℤ)) → RisesFrom (k + 1) vs → RisesFrom 0 (versions_kept f (shown k o) vs)
rises_kept f k o [] h = subst (RisesFrom 0) (append-nil (shown k o)) (rises_shown k o [] h)
rises_kept f k o (v ∷ vs) h = go (leb v.0 f) (rises_kept f v.0 v.1 vs h.1)
  where
    go : (b : Bool) → RisesFrom 0 (versions_kept f (shown v.0 v.1) vs) → RisesFrom 0 (cond b (versions_kept f (shown v.0 v.1) vs) (shown k o ++ v ∷ vs))
    go true rest = rest
    go false rest = rises_shown k o (v ∷ vs) h

pub trimmed_rises : (f : ℕ) (chain : VersionChain) → RisesFrom 0 chain.versions → RisesFrom 0 (trimmed f chain).versions
trimmed_rises f chain h = begin chain.versions h
  where
    begin : (vs : List (ℕ × Option ℤ)) → RisesFrom 0 vs → RisesFrom 0 (versions_kept f [] vs)
    begin [] h = tt
    begin (v ∷ vs) h = go (leb v.0 f)
      where
        go : (b : Bool) → RisesFrom 0 (cond b (versions_kept f (shown v.0 v.1) vs) (v ∷ vs))
        go true = rises_kept f v.0 v.1 vs h.1
        go false = h

-- ---- numbers below the next commit

-- a list that a filter leaves whole, and its rest
pub filtered_rest : {A : Type 0} (p : A → Bool) (x : A) (xs : List A) → filter p (x ∷ xs) ≡ x ∷ xs → (p x ≡ true) × (filter p xs ≡ xs)
filtered_rest p x xs whole = go (p x) refl whole
  where
    go : (b : Bool) → p x ≡ b → cond b (x ∷ filter p xs) (filter p xs) ≡ x ∷ xs → (p x ≡ true) × (filter p xs ≡ xs)
    go true passes same = (passes, let rest : filter p xs ≡ xs = cc in rest)
    go false fails same = absurd (let h = ap length same in let less = length-filter_both p (λ y. not (p y)) (λ y. refl) xs in omega (arith, h, less))

below_shown : (n k : ℕ) (o : Option ℤ) (vs : List (ℕ × Option ℤ)) → k < n → filter (λ (v : ℕ × Option ℤ). nat_lt v.0 n) vs ≡ vs →
    filter (λ (v : ℕ × Option ℤ). nat_lt v.0 n) (shown k o ++ vs) ≡ shown k o ++ vs
below_shown n k None vs low whole = whole
below_shown n k (Some x) vs low whole =
    ap (λ b. cond b ((k, Some x) ∷ filter (λ (v : ℕ × Option ℤ). nat_lt v.0 n) vs) (filter (λ (v : ℕ × Option ℤ). nat_lt v.0 n) vs)) (le-leb (suc k) n low) ∙ ap (λ xs. (k, Some x) ∷ xs) whole

below_kept : (f n : ℕ) (k : ℕ) (o : Option ℤ) (vs : List (ℕ × Option ℤ)) → k < n → filter (λ (v : ℕ × Option ℤ). nat_lt v.0 n) vs ≡ vs →
    filter (λ (v : ℕ × Option ℤ). nat_lt v.0 n) (versions_kept f (shown k o) vs) ≡ versions_kept f (shown k o) vs
below_kept f n k o [] low whole = subst (λ (xs : List (ℕ × Option ℤ)). filter (λ (v : ℕ × Option ℤ). nat_lt v.0 n) xs ≡ xs) (append-nil (shown k o)) (below_shown n k o [] low refl)
below_kept f n k o (v ∷ vs) low whole =
    let first = filtered_rest (λ (v : ℕ × Option ℤ). nat_lt v.0 n) v vs whole in
    go (leb v.0 f) (below_kept f n v.0 v.1 vs (let h = first.0 in grind (arith, nat_tests)) first.1)
  where
    go : (b : Bool) → filter (λ (v : ℕ × Option ℤ). nat_lt v.0 n) (versions_kept f (shown v.0 v.1) vs) ≡ versions_kept f (shown v.0 v.1) vs →
        filter (λ (v : ℕ × Option ℤ). nat_lt v.0 n) (cond b (versions_kept f (shown v.0 v.1) vs) (shown k o ++ v ∷ vs)) ≡ cond b (versions_kept f (shown v.0 v.1) vs) (shown k o ++ v ∷ vs)
    go true rest = rest
    go false rest = below_shown n k o (v ∷ vs) low whole

below_marks : (f n : ℕ) (ms : List ℕ) → filter (λ (m : ℕ). nat_lt m n) ms ≡ ms → filter (λ (m : ℕ). nat_lt m n) (marks_kept f ms) ≡ marks_kept f ms
below_marks f n [] whole = refl
below_marks f n (m ∷ ms) whole = go (leb m f) (below_marks f n ms (filtered_rest (λ (m : ℕ). nat_lt m n) m ms whole).1)
  where
    go : (b : Bool) → filter (λ (m : ℕ). nat_lt m n) (marks_kept f ms) ≡ marks_kept f ms → filter (λ (m : ℕ). nat_lt m n) (cond b (marks_kept f ms) (m ∷ ms)) ≡ cond b (marks_kept f ms) (m ∷ ms)
    go true rest = rest
    go false rest = whole

pub trimmed_below : (f n : ℕ) (chain : VersionChain) → IsBelow (n + 1) chain → IsBelow (n + 1) (trimmed f chain)
trimmed_below f n chain below i = record {
  versions = below_kept f (n + 1) 0 None chain.versions (omega arith) (ap (λ (x : VersionChain). x.versions) below) i;
  marks = below_marks f (n + 1) chain.marks (ap (λ (x : VersionChain). x.marks) below) i;
}

-- ---- the loops

-- the front that goes, and the rest behind it
seam : {A : Type 0} (n m : ℕ) (xs : List A) → n ≤ m → drop n (take m xs) ++ drop m xs ≡ drop n xs
seam zero zero xs less = refl
seam zero (suc m) [] less = refl
seam zero (suc m) (x ∷ xs) less = ap (λ ys. x ∷ ys) (seam zero m xs (omega arith))
seam (suc n) zero xs less = absurd (omega arith)
seam (suc n) (suc m) [] less = refl
seam (suc n) (suc m) (x ∷ xs) less = seam n m xs (omega arith)

-- how many of the first `place` versions go, as far as a loop has come
pub record Outdates (f : ℕ) (vs : List (ℕ × Option ℤ)) (outdated place : ℕ) : Type 0 where
  pub bound : outdated ≤ place
  pub rest : versions_kept f (drop outdated (take place vs)) (drop place vs) ≡ versions_kept f [] vs

pub outdates_first : (f : ℕ) (vs : List (ℕ × Option ℤ)) → Outdates f vs 0 0
outdates_first f vs = record { bound = omega arith; rest = refl }

-- the last of the first versions, alone
last_alone : {A : Type 0} (xs : List A) (n : ℕ) (d : A) → n < length xs → drop n (take (suc n) xs) ≡ get_or xs n d ∷ []
last_alone [] n d within = absurd (omega arith)
last_alone (x ∷ xs) zero d within = refl
last_alone (x ∷ xs) (suc n) d within = last_alone xs n d (omega arith)

none_behind_first : {A : Type 0} (xs : List A) (n : ℕ) → drop n (take n xs) ≡ []
none_behind_first xs zero = refl
none_behind_first [] (suc n) = refl
none_behind_first (x ∷ xs) (suc n) = none_behind_first xs n

-- one more version that is at most the floor
pub outdates_more : (f : ℕ) (vs : List (ℕ × Option ℤ)) (outdated place : ℕ) (v : ℕ × Option ℤ) → place < length vs → v ≡ get_or vs place v → v.0 ≤ f →
    Outdates f vs outdated place → Outdates f vs (if is_some v.1 then place else place + 1) (place + 1)
outdates_more f vs outdated place v within is low h = record { bound = bound (is_some v.1); rest = go v.1 refl ∙ turn }
  where
    bound : (b : Bool) → (if b then place else place + 1) ≤ place + 1
    bound true = omega arith
    bound false = omega arith

    first : drop place vs ≡ v ∷ drop (place + 1) vs
    first = drop-cons vs place v within ∙ ap (λ x. x ∷ drop (suc place) vs) (sym is) ∙ ap (λ n. v ∷ drop n vs) (sym (add-one place))

    turn : versions_kept f (shown v.0 v.1) (drop (place + 1) vs) ≡ versions_kept f [] vs
    turn =
        ap (λ b. cond b (versions_kept f (shown v.0 v.1) (drop (place + 1) vs)) (drop outdated (take place vs) ++ v ∷ drop (place + 1) vs)) (sym (le-leb v.0 f low))
        ∙ ap (versions_kept f (drop outdated (take place vs))) (sym first)
        ∙ h.rest

    go : (o : Option ℤ) → v.1 ≡ o → versions_kept f (drop (if is_some o then place else place + 1) (take (place + 1) vs)) (drop (place + 1) vs) ≡ versions_kept f (shown v.0 o) (drop (place + 1) vs)
    go None none = ap (λ held. versions_kept f held (drop (place + 1) vs)) (none_behind_first vs (place + 1))
    go (Some x) some =
        let alone : drop place (take (place + 1) vs) ≡ (v.0, Some x) ∷ [] = ap (λ n. drop place (take n vs)) (add-one place) ∙ last_alone vs place v within ∙ ap (λ y. y ∷ []) (sym is) ∙ ap (λ o. (v.0, o) ∷ []) some in
        ap (λ held. versions_kept f held (drop (place + 1) vs)) alone

-- the first version above the floor ends it
pub outdates_above : (f : ℕ) (vs : List (ℕ × Option ℤ)) (outdated place : ℕ) (v : ℕ × Option ℤ) → place < length vs → v ≡ get_or vs place v → f < v.0 →
    Outdates f vs outdated place → versions_kept f [] vs ≡ drop outdated vs
outdates_above f vs outdated place v within is above h =
    sym h.rest
    ∙ ap (versions_kept f (drop outdated (take place vs))) first
    ∙ ap (λ b. cond b (versions_kept f (shown v.0 v.1) (drop (suc place) vs)) (drop outdated (take place vs) ++ v ∷ drop (suc place) vs)) (lt-leb v.0 f above)
    ∙ ap (λ xs. drop outdated (take place vs) ++ xs) (sym first)
    ∙ seam outdated place vs h.bound
  where
    first : drop place vs ≡ v ∷ drop (suc place) vs
    first = drop-cons vs place v within ∙ ap (λ x. x ∷ drop (suc place) vs) (sym is)

pub outdates_all : (f : ℕ) (vs : List (ℕ × Option ℤ)) (outdated place : ℕ) → length vs ≤ place → Outdates f vs outdated place → versions_kept f [] vs ≡ drop outdated vs
outdates_all f vs outdated place ends h =
    let none : drop place vs ≡ [] = drop_of_length-le vs ends in
    sym h.rest
    ∙ ap (versions_kept f (drop outdated (take place vs))) none
    ∙ sym (append-nil (drop outdated (take place vs)))
    ∙ ap (λ xs. drop outdated (take place vs) ++ xs) (sym none)
    ∙ seam outdated place vs h.bound

-- ---- marks

-- those at the front that are at most the floor go
pub marks_left : (f : ℕ) (ms : List ℕ) → drop (prefix_len (λ (m : ℕ). leb m f) ms) ms ≡ marks_kept f ms
marks_left f [] = refl
marks_left f (m ∷ ms) = go (leb m f) (marks_left f ms)
  where
    go : (b : Bool) → drop (prefix_len (λ (m : ℕ). leb m f) ms) ms ≡ marks_kept f ms →
        drop (cond b (1 + prefix_len (λ (m : ℕ). leb m f) ms) 0) (m ∷ ms) ≡ cond b (marks_kept f ms) (m ∷ ms)
    go true rest = ap (λ n. drop n (m ∷ ms)) (one-add (prefix_len (λ (m : ℕ). leb m f) ms)) ∙ rest
    go false rest = refl
