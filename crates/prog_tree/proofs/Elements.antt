-- Elements of lists: at a place, behind a map, in a longer list, left of it, passing a test, and by recursion.
use Rattle.std.proofs.Common.{◌≡◌, ◌+◌, ℕ, ◌⊎◌, inl, inr, Bool, true, List, [], ◌∷◌, ◌++◌, ◌<◌, ◌≢◌, length, set, map, refl, sym, subst, ap, ◌∙◌, append_assoc, append-nil, arith, zero, suc, Contains, Some}
use Rattle.std.specs.Prelude.{slice_get, All}
use Rattle.std.specs.List.{list_any}
use Rattle.std.proofs.lemmas.Bool.{false≢true, or_cases}
use Rattle.std.proofs.lemmas.List.Elements.{All-contains}
use Rattle.std.proofs.lemmas.List.Folds.{list_any_at}
use Rattle.std.proofs.lemmas.Option.{none-some, same_Some, slice_get_within, get_or_from_slice_get, slice_get-get_or}

pub contains_at : {A : Type 0} (xs : List A) (n : ℕ) (x : A) → slice_get xs n ≡ Some x → Contains xs x
contains_at xs n x at = (n, slice_get_within xs n x at, get_or_from_slice_get xs n x x at)

pub place_of : {A : Type 0} (xs : List A) (x : A) → Contains xs x → (n : ℕ) × (slice_get xs n ≡ Some x)
place_of xs x (n, lt, is) = (n, slice_get-get_or xs n x lt ∙ ap Some is)

pub element_at : {A : Type 0} (xs : List A) (n : ℕ) → n < length xs → (x : A) × (slice_get xs n ≡ Some x)
element_at [] n inside = absurd (omega (arith, inside))
element_at (x ∷ xs) zero inside = (x, refl)
element_at (x ∷ xs) (suc n) inside = element_at xs n (omega (arith, inside))

-- a list of one element has this alone
pub contains_itself : {A : Type 0} (x : A) → Contains (x ∷ []) x
contains_itself x = (0, omega arith, refl)

pub contains_only : {A : Type 0} (x y : A) → Contains (x ∷ []) y → x ≡ y
contains_only x y (zero, inside, is) = is
contains_only x y (suc n, inside, is) = absurd (omega (arith, inside))

pub contains_nothing : {A : Type 0} (x : A) → Contains [] x → ⊥
contains_nothing x has = let inside = has.1 in omega (arith, inside)

-- an element of a list with one more is one of the list, or that one
pub get_push_cases : {A : Type 0} (xs : List A) (x y : A) (n : ℕ) → slice_get (xs ++ x ∷ []) n ≡ Some y → (slice_get xs n ≡ Some y) ⊎ ((n ≡ length xs) × (x ≡ y))
get_push_cases [] x y zero found = inr (refl, same_Some x y found)
get_push_cases [] x y (suc n) found = absurd (none-some y found)
get_push_cases (z ∷ xs) x y zero found = inl found
get_push_cases (z ∷ xs) x y (suc n) found = go (get_push_cases xs x y n found)
  where
    go : (slice_get xs n ≡ Some y) ⊎ ((n ≡ length xs) × (x ≡ y)) → (slice_get xs n ≡ Some y) ⊎ ((suc n ≡ suc (length xs)) × (x ≡ y))
    go (inl before) = inl before
    go (inr here) = inr (ap suc here.0, here.1)

-- ---- one element set

pub get-set_same : {A : Type 0} (xs : List A) (n : ℕ) (x : A) → n < length xs → slice_get (set xs n x) n ≡ Some x
get-set_same [] n x inside = absurd (omega (arith, inside))
get-set_same (y ∷ xs) zero x inside = refl
get-set_same (y ∷ xs) (suc n) x inside = get-set_same xs n x (omega (arith, inside))

pub get-set_other : {A : Type 0} (xs : List A) (n m : ℕ) (x : A) → m ≢ n → slice_get (set xs n x) m ≡ slice_get xs m
get-set_other [] n m x other = refl
get-set_other (y ∷ xs) zero zero x other = absurd (other refl)
get-set_other (y ∷ xs) zero (suc m) x other = refl
get-set_other (y ∷ xs) (suc n) zero x other = refl
get-set_other (y ∷ xs) (suc n) (suc m) x other = get-set_other xs n m x (λ same. other (ap suc same))

-- ---- behind a map

later : {A : Type 0} (x y : A) (xs : List A) → Contains xs y → Contains (x ∷ xs) y
later x y xs (k, lt, is) = (suc k, omega (arith, lt), is)

pub from_mapped : {A B : Type 0} (f : A → B) (xs : List A) (y : B) → Contains (map f xs) y → (x : A) × Contains xs x × (f x ≡ y)
from_mapped f [] y (k, lt, is) = absurd (omega (arith, lt))
from_mapped f (x ∷ xs) y (zero, lt, is) = (x, (zero, omega arith, refl), is)
from_mapped f (x ∷ xs) y (suc k, lt, is) = let r = from_mapped f xs y (k, omega (arith, lt), is) in (r.0, later x r.0 xs r.1, r.2)

pub mapped_at : {A B : Type 0} (f : A → B) (xs : List A) (n : ℕ) (x : A) → slice_get xs n ≡ Some x → slice_get (map f xs) n ≡ Some (f x)
mapped_at f [] n x at = absurd (none-some x at)
mapped_at f (y ∷ xs) zero x at = ap (λ z. Some (f z)) (same_Some y x at)
mapped_at f (y ∷ xs) (suc n) x at = mapped_at f xs n x at

-- ---- in a longer list

-- what stands at a place stands there with more behind it
pub get_left : {A : Type 0} (xs ys : List A) (n : ℕ) (x : A) → slice_get xs n ≡ Some x → slice_get (xs ++ ys) n ≡ Some x
get_left [] ys n x at = absurd (none-some x at)
get_left (y ∷ xs) ys zero x at = at
get_left (y ∷ xs) ys (suc n) x at = get_left xs ys n x at

-- what comes right behind a list stands at its length
pub get_seam : {A : Type 0} (xs ys : List A) (x : A) → slice_get (xs ++ x ∷ ys) (length xs) ≡ Some x
get_seam [] ys x = refl
get_seam (y ∷ xs) ys x = get_seam xs ys x

-- what stands behind a list stands so many places on
pub at-right : {A : Type 0} (xs ys : List A) (k : ℕ) (p : A) → slice_get ys k ≡ Some p → slice_get (xs ++ ys) (length xs + k) ≡ Some p
at-right [] ys k p at = let e : 0 + k ≡ k = omega arith in subst (λ (i : ℕ). slice_get ys i ≡ Some p) (sym e) at
at-right (x ∷ xs) ys k p at =
    let e : suc (length xs) + k ≡ suc (length xs + k) = omega arith in
    subst (λ (i : ℕ). slice_get (x ∷ xs ++ ys) i ≡ Some p) (sym e) (at-right xs ys k p at)

-- ---- what is left of a list

-- a loop that takes one more of a list
pub more_yielded : {X : Type 0} (yielded rest all left : List X) (x : X) → yielded ++ left ≡ all → left ≡ x ∷ rest → (yielded ++ x ∷ []) ++ rest ≡ all
more_yielded {X = X} yielded rest all left x is first = append_assoc yielded (x ∷ []) rest ∙ ap (λ (l : List X). yielded ++ l) (sym first) ∙ is

-- and one that took all
pub all_yielded : {X : Type 0} (yielded left all : List X) → yielded ++ left ≡ all → length left ≡ 0 → yielded ≡ all
all_yielded yielded [] all is none = sym (append-nil yielded) ∙ is
all_yielded yielded (x ∷ left) all is none = absurd (omega (arith, none))

-- ---- passing a test

pub any_in : {A : Type 0} (p : A → Bool) (xs : List A) → list_any p xs ≡ true → (x : A) × Contains xs x × (p x ≡ true)
any_in p [] h = absurd (false≢true h)
any_in {A = A} p (x ∷ xs) h = go (or_cases (p x) _ h) (λ t. any_in p xs t)
  where
    go : (p x ≡ true) ⊎ (list_any p xs ≡ true) → (list_any p xs ≡ true → (y : A) × Contains xs y × (p y ≡ true)) → (y : A) × Contains (x ∷ xs) y × (p y ≡ true)
    go (inl a) rest = (x, (zero, omega arith, refl), a)
    go (inr b) rest = let r = rest b in (r.0, later x r.0 xs r.1, r.2)

pub in_any : {A : Type 0} (p : A → Bool) (xs : List A) (x : A) → Contains xs x → p x ≡ true → list_any p xs ≡ true
in_any {A = A} p xs x (k, lt, is) h = list_any_at p xs k x lt (subst (λ (y : A). p y ≡ true) (sym is) h)

-- ---- by recursion, for proofs that go along the list

abbrev pub IsMember : {A : Type 0} → A → List A → Type 0
IsMember x [] = ⊥
IsMember x (y ∷ ys) = (y ≡ x) ⊎ IsMember x ys

pub member_from_contains : {A : Type 0} (xs : List A) (x : A) → Contains xs x → IsMember x xs
member_from_contains [] x (k, lt, is) = absurd (omega (arith, lt))
member_from_contains (y ∷ xs) x (zero, lt, is) = inl is
member_from_contains (y ∷ xs) x (suc k, lt, is) = inr (member_from_contains xs x (k, omega (arith, lt), is))

pub contains_from_member : {A : Type 0} (xs : List A) (x : A) → IsMember x xs → Contains xs x
contains_from_member [] x h = absurd h
contains_from_member (y ∷ xs) x (inl e) = (zero, omega arith, e)
contains_from_member (y ∷ xs) x (inr h) = later y x xs (contains_from_member xs x h)

pub member_all : {A : Type 0} (P : A → Type 0) (xs : List A) (x : A) → All P xs → IsMember x xs → P x
member_all P xs x all h = All-contains P xs x all (contains_from_member xs x h)

pub member_left : {A : Type 0} (x : A) (xs ys : List A) → IsMember x xs → IsMember x (xs ++ ys)
member_left x [] ys h = absurd h
member_left x (y ∷ xs) ys (inl e) = inl e
member_left x (y ∷ xs) ys (inr h) = inr (member_left x xs ys h)

pub member_right : {A : Type 0} (x : A) (xs ys : List A) → IsMember x ys → IsMember x (xs ++ ys)
member_right x [] ys h = h
member_right x (y ∷ xs) ys h = inr (member_right x xs ys h)

pub member_either : {A : Type 0} (x : A) (xs ys : List A) → IsMember x (xs ++ ys) → IsMember x xs ⊎ IsMember x ys
member_either x [] ys h = inr h
member_either x (y ∷ xs) ys (inl e) = inl (inl e)
member_either {A = A} x (y ∷ xs) ys (inr h) = go (member_either x xs ys h)
  where
    go : IsMember x xs ⊎ IsMember x ys → IsMember x (y ∷ xs) ⊎ IsMember x ys
    go (inl k) = inl (inr k)
    go (inr k) = inr k

pub member_map : {A B : Type 0} (f : A → B) (x : A) (xs : List A) → IsMember x xs → IsMember (f x) (map f xs)
member_map f x [] h = absurd h
member_map f x (y ∷ xs) (inl e) = inl (ap f e)
member_map f x (y ∷ xs) (inr h) = inr (member_map f x xs h)

pub member_mapped : {A B : Type 0} (f : A → B) (xs : List A) (y : B) → IsMember y (map f xs) → (x : A) × IsMember x xs × (f x ≡ y)
member_mapped f [] y h = absurd h
member_mapped f (x ∷ xs) y (inl e) = (x, inl refl, e)
member_mapped f (x ∷ xs) y (inr h) = let r = member_mapped f xs y h in (r.0, inr r.1, r.2)
