-- Lists that have each number once, and the marks by which this is tested.
use Rattle.std.proofs.Common.{◌≡◌, ◌==◌, ℕ, zero, suc, ◌+◌, ◌<◌, ◌≤◌, Bool, true, false, List, [], ◌∷◌, ◌++◌, length, map, get_or, replicate, refl, ap, sym, ◌∙◌, true≢false, arith}
use Rattle.std.specs.Prelude.{◌&&◌, ◌||◌, slice_set}
use Rattle.std.specs.List.{list_all, range_with_len}
use Rattle.std.proofs.lemmas.Bool.Decides.{nat_tests}
use Rattle.std.proofs.lemmas.List.Folds.{list_any-append, list_all-map}
use Rattle.std.proofs.lemmas.List.{length-append}
use Rattle.std.proofs.Math.Bool.{or-true, or-false}
use Rattle.std.proofs.lemmas.Bool.{eq-eqb, ne_eqb}
use Rattle.serial_orders.specs.Orders.{is_one_of}
use Rattle.history_book.specs.Serial.{is_each_once}
use Rattle.serial_orders.proofs.NumberLists.{one-at, one-push}
use Rattle.serial_orders.proofs.OrderLaws.{member_of, all-at, up_to_ranged}
use Rattle.history_book.proofs.ForwardLaws.{long_enough, none_else}

-- ---- one number more

more_here : (xs : List ℕ) (x m : ℕ) → x ≡ m → is_one_of (xs ++ x ∷ []) m ≡ true
more_here xs x m same = one-push xs x m ∙ ap (λ b. is_one_of xs m || b) (eq-eqb x m same) ∙ or-true (is_one_of xs m)

more_elsewhere : (xs : List ℕ) (x m : ℕ) → (x ≡ m → ⊥) → is_one_of (xs ++ x ∷ []) m ≡ is_one_of xs m
more_elsewhere xs x m other = one-push xs x m ∙ ap (λ b. is_one_of xs m || b) (ne_eqb x m other) ∙ or-false (is_one_of xs m)

-- a number outside the range changes no mark
pub unmarked : (xs : List ℕ) (x a n : ℕ) → ((m : ℕ) → a ≤ m → m < a + n → x ≡ m → ⊥) → map (is_one_of xs) (range_with_len a n) ≡ map (is_one_of (xs ++ x ∷ [])) (range_with_len a n)
unmarked xs x a zero outside = refl
unmarked xs x a (suc n) outside =
    let first = more_elsewhere xs x a (outside a (omega arith) (omega arith)) in
    let rest = unmarked xs x (a + 1) n (λ m low high. outside m (omega arith) (omega arith)) in
    λ i. sym first i ∷ rest i

pub marked : (xs : List ℕ) (x a n i : ℕ) → i < n → x ≡ a + i → slice_set (map (is_one_of xs) (range_with_len a n)) i true ≡ map (is_one_of (xs ++ x ∷ [])) (range_with_len a n)
marked xs x a zero i within is = absurd (omega arith)
marked xs x a (suc n) zero within is =
    let first = more_here xs x a (omega arith) in
    let rest = unmarked xs x (a + 1) n (λ m low high same. absurd (omega arith)) in
    λ i. sym first i ∷ rest i
marked xs x a (suc n) (suc i) within is =
    let first = more_elsewhere xs x a (λ (same : x ≡ a). absurd (omega arith)) in
    let rest = marked xs x (a + 1) n i (omega arith) (omega arith) in
    λ k. sym first k ∷ rest k

-- nothing is marked by no number
pub none_marked : (a n : ℕ) → replicate n false ≡ map (is_one_of []) (range_with_len a n)
none_marked a zero = refl
none_marked a (suc n) = let rest = none_marked (a + 1) n in λ i. false ∷ rest i

-- a list of the right length has each number once where all are marked
pub once_by_marks : (n : ℕ) (order : List ℕ) (marks : List Bool) (all : Bool) → length order ≡ n → marks ≡ map (is_one_of order) (range_with_len 1 n) → all ≡ list_all (λ mark. mark) marks →
    all ≡ is_each_once n order
once_by_marks n order marks all size is tells =
    let same : (length order == n) ≡ true = grind (arith, nat_tests) in
    tells ∙ ap (list_all (λ mark. mark)) is ∙ list_all-map (λ mark. mark) (is_one_of order) (range_with_len 1 n) ∙ ap (λ b. b && list_all (is_one_of order) (range_with_len 1 n)) (sym same)

-- ---- each number from 1 to n in a list of length n

-- it has no other number
no_other : (n : ℕ) (ys : List ℕ) → length ys ≡ n → ((m : ℕ) → 1 ≤ m → m ≤ n → is_one_of ys m ≡ true) → (k : ℕ) → is_one_of ys k ≡ true → (1 ≤ k) × (k ≤ n)
no_other n ys size all k has = none_else n ys size (λ i up. member_of ys i (all i up.0 up.1)) k (member_of ys k has)

pub record IsWhole (n : ℕ) (order : List ℕ) : Type 0 where
  pub size : length order ≡ n
  pub all : (m : ℕ) → 1 ≤ m → m ≤ n → is_one_of order m ≡ true

pub whole : (n : ℕ) (order : List ℕ) → is_each_once n order ≡ true → IsWhole n order
whole n order once = go (length order == n) refl once
  where
    go : (b : Bool) → (length order == n) ≡ b → (b && list_all (is_one_of order) (range_with_len 1 n)) ≡ true → IsWhole n order
    go true is h = record { size = grind (arith, nat_tests); all = λ m low high. all-at (is_one_of order) (range_with_len 1 n) m h (up_to_ranged n m (low, high)) }
    go false is h = absurd (true≢false (sym h))

-- where each number stands once, all are in the range
pub within_range : (n : ℕ) (order : List ℕ) → is_each_once n order ≡ true → (i d : ℕ) → i < length order → (1 ≤ get_or order i d) × (get_or order i d ≤ n)
within_range n order once i d within =
    let w = whole n order once in
    no_other n order w.size w.all (get_or order i d) (one-at order i d within)

-- ---- one number twice

-- a list that has each number from 1 to n, and is as long, has none of them twice
pub not_twice : (n : ℕ) (placed rest : List ℕ) (m : ℕ) → is_one_of placed m ≡ true → is_each_once n (placed ++ m ∷ rest) ≡ true → ⊥
not_twice n placed rest m has once =
    let w = whole n (placed ++ m ∷ rest) once in
    let enough : n ≤ length (placed ++ rest) = long_enough n (placed ++ rest) (λ q up. member_of (placed ++ rest) q (still q (w.all q up.0 up.1))) in
    omega (arith, enough, w.size, length-append placed (m ∷ rest), length-append placed rest)
  where
    still : (q : ℕ) → is_one_of (placed ++ m ∷ rest) q ≡ true → is_one_of (placed ++ rest) q ≡ true
    still q there =
        go (m == q) refl (is_one_of placed q) refl (sym (list_any-append (λ k. k == q) placed (m ∷ rest)) ∙ there)
      where
        go : (b : Bool) → (m == q) ≡ b → (c : Bool) → is_one_of placed q ≡ c → (is_one_of placed q || ((m == q) || is_one_of rest q)) ≡ true → is_one_of (placed ++ rest) q ≡ true
        go b is true at h = list_any-append (λ k. k == q) placed rest ∙ ap (λ t. t || is_one_of rest q) at
        go true is false at h = let same : m ≡ q = grind (arith, nat_tests) in absurd (true≢false (sym has ∙ ap (is_one_of placed) same ∙ at))
        go false is false at h =
            list_any-append (λ k. k == q) placed rest ∙ ap (λ t. t || is_one_of rest q) at ∙ (sym (ap (λ t. t || is_one_of rest q) is) ∙ sym (ap (λ t. t || ((m == q) || is_one_of rest q)) at) ∙ h)

-- the number behind those that are placed lies in the range
pub next_within : (n : ℕ) (placed rest : List ℕ) (m : ℕ) → is_each_once n (placed ++ m ∷ rest) ≡ true → (1 ≤ m) × (m ≤ n)
next_within n placed rest m once =
    let w = whole n (placed ++ m ∷ rest) once in
    no_other n (placed ++ m ∷ rest) w.size w.all m (list_any-append (λ k. k == m) placed (m ∷ rest) ∙ last (is_one_of placed m) (m == m) self)
  where
    self : (m == m) ≡ true
    self = grind (arith, nat_tests)

    last : (a b : Bool) → b ≡ true → (a || (b || is_one_of rest m)) ≡ true
    last a b is = ap (λ t. a || (t || is_one_of rest m)) is ∙ or-true a
