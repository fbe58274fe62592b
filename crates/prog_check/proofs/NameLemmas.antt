-- Laws of lists of names.
use Rattle.std.proofs.Common.{◌≡◌, ◌+◌, List, [], ◌∷◌, ◌++◌, map, length, refl, ap, sym, ◌∙◌, cond, Bool, true, false, ◌||◌, not, nat_lt, slice_get, if◌then◌else◌, arith, tests, suc}
use Rattle.std.specs.Prelude.{Some, None}
use Rattle.std.specs.List.{list_any, find, position, position_or_len, prefix_len, AllZip}
use Rattle.std.specs.Option.{option_and_then}
use Rattle.std.proofs.Math.Bool.{or-true}
use Rattle.std.proofs.lemmas.List.{length-map, map-append}
use Rattle.std.proofs.lemmas.Bool.{true≢false}
use Rattle.std.proofs.lemmas.List.Folds.{list_any-append}
use Rattle.std.proofs.lemmas.Option.{slice_get_past}
use Rattle.std.specs.Cmp.Lexicographic.{nat_list_eq_equiv}
use Rattle.prog_tree.specs.Syntax.{Name}
use Rattle.prog_tree.specs.Value.{same_name}
use Rattle.prog_check.specs.Names.{is_among, has_twice}

module _ {X Y : Type 0} (p : Y → Bool) (f : X → Y) where
  pub list_any-map : (xs : List X) → list_any p (map f xs) ≡ list_any (λ x. p (f x)) xs
  list_any-map [] = refl
  list_any-map (x ∷ xs) = ap (λ b. p (f x) || b) (list_any-map xs)

  prefix_len-map : (q : Y → Bool) (xs : List X) → prefix_len q (map f xs) ≡ prefix_len (λ x. q (f x)) xs
  prefix_len-map q [] = refl
  prefix_len-map q (x ∷ xs) = ap (λ n. cond (q (f x)) (1 + n) 0) (prefix_len-map q xs)

  pub position-map : (xs : List X) → position p (map f xs) ≡ position (λ x. p (f x)) xs
  position-map xs = λ i. cond (nat_lt (prefix_len-map (λ y. not (p y)) xs i) (length-map xs f i)) (Some (prefix_len-map (λ y. not (p y)) xs i)) None

-- the element at the place where a test first passes
module _ {X : Type 0} (p : X → Bool) where
  find_at : (xs : List X) → slice_get xs (position_or_len p xs) ≡ find p xs
  find_at [] = refl
  find_at (x ∷ xs) =
      let rest = position_or_len p xs in
      let next : 1 + rest ≡ suc rest = omega arith in
      elim (p x) as (λ b. slice_get (x ∷ xs) (cond (not b) (1 + rest) 0) ≡ cond b (Some x) (find p xs)) [ true ↦ refl | false ↦ ap (slice_get (x ∷ xs)) next ∙ find_at xs ]

  pub find-position : (xs : List X) → option_and_then (slice_get xs) (position p xs) ≡ find p xs
  find-position xs = by (nat_lt (position_or_len p xs) (length xs)) refl
    where
      by : (b : Bool) → nat_lt (position_or_len p xs) (length xs) ≡ b → option_and_then (slice_get xs) (cond b (Some (position_or_len p xs)) None) ≡ find p xs
      by true e = find_at xs
      by false e = sym (slice_get_past xs (position_or_len p xs) (search (tests, arith))) ∙ find_at xs

-- an insertion into a list of keys, seen through a map
pub map-inserted : {X Y : Type 0} (f : X → Y) (b : Bool) (xs : List X) (x : X) → map f (if b then xs else xs ++ x ∷ []) ≡ (if not b then map f xs ++ f x ∷ [] else map f xs)
map-inserted f true xs x = refl
map-inserted f false xs x = map-append f xs (x ∷ [])

-- copies that are the same, one by one
pub copied : {X Y : Type 0} (f : X → Y) (xs copies : List X) → AllZip (λ x copy. f copy ≡ f x) xs copies → map f copies ≡ map f xs
copied f [] [] h = refl
copied f [] (y ∷ ys) h = absurd h
copied f (x ∷ xs) [] h = absurd h
copied f (x ∷ xs) (y ∷ ys) h = λ i. h.0 i ∷ copied f xs ys h.1 i

-- ---- names that stand twice

-- what an answer says, from what its negation says
pub negated : (b answer : Bool) → answer ≡ not b → b ≡ not answer
negated true answer e = sym (ap not e)
negated false answer e = sym (ap not e)

-- a name that stands before itself
pub has_twice-seen : (names : List Name) (x : Name) (later : List Name) → is_among names x ≡ true → has_twice (names ++ x ∷ later) ≡ true
has_twice-seen [] x later seen = absurd (true≢false (sym seen))
has_twice-seen (y ∷ names) x later seen = by (same_name x y) refl (has_twice-seen names x later) seen
  where
    by : (b : Bool) → same_name x y ≡ b → (is_among names x ≡ true → has_twice (names ++ x ∷ later) ≡ true) → (b || is_among names x) ≡ true → has_twice (y ∷ names ++ x ∷ later) ≡ true
    by true same rest seen =
        ap (λ c. c || has_twice (names ++ x ∷ later)) (list_any-append (same_name y) names (x ∷ later) ∙ ap (λ c. is_among names y || (c || is_among later y)) (nat_list_eq_equiv.symm y x ∙ same) ∙ or-true (is_among names y))
    by false same rest seen = ap (λ c. is_among (names ++ x ∷ later) y || c) (rest seen) ∙ or-true (is_among (names ++ x ∷ later) y)

-- a new name behind names of which none stands twice
pub has_twice-push : (names : List Name) (x : Name) → has_twice names ≡ false → is_among names x ≡ false → has_twice (names ++ x ∷ []) ≡ false
has_twice-push [] x once new = refl
has_twice-push (y ∷ names) x once new = by (is_among names y) refl (same_name x y) refl (has_twice-push names x) once new
  where
    by : (a : Bool) → is_among names y ≡ a → (b : Bool) → same_name x y ≡ b → (has_twice names ≡ false → is_among names x ≡ false → has_twice (names ++ x ∷ []) ≡ false)
        → (a || has_twice names) ≡ false → (b || is_among names x) ≡ false → has_twice (y ∷ names ++ x ∷ []) ≡ false
    by true a b same rest once new = absurd (true≢false once)
    by false a true same rest once new = absurd (true≢false new)
    by false a false same rest once new =
        ap (λ c. c || has_twice (names ++ x ∷ [])) (list_any-append (same_name y) names (x ∷ []) ∙ (λ i. a i || ((nat_list_eq_equiv.symm y x ∙ same) i || false))) ∙ rest once new
