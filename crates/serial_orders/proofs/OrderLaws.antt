-- Least orders: each number comes after all that has to stand before it.
use Rattle.std.proofs.Common.{◌≡◌, ◌⊎◌, inl, inr, ◌↔◌, ℕ, zero, suc, ◌+◌, ◌<◌, ◌≤◌, eqb, Bool, true, false, not, cond, ◌||◌, List, [], ◌∷◌, ◌++◌, length, refl, ap, sym, subst, ◌∙◌, arith, append_assoc, append-nil}
use Rattle.std.specs.Prelude.{Option, Some, None, option_and_then}
use Rattle.std.specs.List.{list_all, range_with_len}
use Rattle.std.proofs.lemmas.Bool.{cases_lt, eqb-true, eq-eqb, and_from, and_parts, or_cases, or_left, or_right}
use Rattle.prog_tree.proofs.Elements.{IsMember, member_left, member_right}
use Rattle.serial_orders.specs.Orders.{is_one_of, is_free, first_free, placed_by, least_order, IsUpTo}
use Rattle.serial_orders.proofs.InTurn.{ComesAfter}

-- ---- tests

pub fails_where : (b : Bool) → (b ≡ true → ⊥) → not b ≡ true
fails_where true h = absurd (h refl)
fails_where false h = refl

pub holds_not : (b : Bool) → not b ≡ true → b ≡ true → ⊥
holds_not true h k = absurd (cc)
holds_not false h k = absurd (cc)

-- ---- members

pub member_of : (xs : List ℕ) (n : ℕ) → is_one_of xs n ≡ true → IsMember n xs
member_of [] n h = absurd (cc)
member_of (x ∷ xs) n h = go (or_cases (eqb x n) (is_one_of xs n) h) (member_of xs n)
  where
    go : (eqb x n ≡ true) ⊎ (is_one_of xs n ≡ true) → (is_one_of xs n ≡ true → IsMember n xs) → (x ≡ n) ⊎ IsMember n xs
    go (inl e) rest = inl (eqb-true x n e)
    go (inr t) rest = inr (rest t)

pub is_one_of-member : (xs : List ℕ) (n : ℕ) → IsMember n xs → is_one_of xs n ≡ true
is_one_of-member [] n m = absurd m
is_one_of-member (x ∷ xs) n (inl e) = or_left (eqb x n) (is_one_of xs n) (eq-eqb x n e)
is_one_of-member (x ∷ xs) n (inr m) = or_right (eqb x n) (is_one_of xs n) (is_one_of-member xs n m)

pub member-split : (xs : List ℕ) (y n : ℕ) → IsMember n (xs ++ y ∷ []) → (y ≡ n) ⊎ IsMember n xs
member-split [] y n (inl e) = inl e
member-split [] y n (inr m) = absurd m
member-split (x ∷ xs) y n (inl e) = inr (inl e)
member-split (x ∷ xs) y n (inr m) = go (member-split xs y n m)
  where
    go : (y ≡ n) ⊎ IsMember n xs → (y ≡ n) ⊎ IsMember n (x ∷ xs)
    go (inl e) = inl e
    go (inr k) = inr (inr k)

pub member_ranged : (a n i : ℕ) → a ≤ i → i < a + n → IsMember i (range_with_len a n)
member_ranged a zero i low high = omega arith
member_ranged a (suc n) i low high = go (cases_lt a i) (λ l. member_ranged (a + 1) n i (omega arith) (omega arith))
  where
    go : (a < i) ⊎ (i ≤ a) → (a < i → IsMember i (range_with_len (a + 1) n)) → (a ≡ i) ⊎ IsMember i (range_with_len (a + 1) n)
    go (inl l) rest = inr (rest l)
    go (inr l) rest = inl (omega arith)

pub ranged-member : (a n i : ℕ) → IsMember i (range_with_len a n) → (a ≤ i) × (i < a + n)
ranged-member a zero i m = absurd m
ranged-member a (suc n) i (inl e) = (omega arith, omega arith)
ranged-member a (suc n) i (inr m) = let r = ranged-member (a + 1) n i m in let x = r.0 in let y = r.1 in (omega arith, omega arith)

pub up_to_ranged : (n i : ℕ) → IsUpTo n i → IsMember i (range_with_len 1 n)
up_to_ranged n i up = let a = up.0 in let b = up.1 in member_ranged 1 n i a (omega arith)

pub ranged_up_to : (n i : ℕ) → IsMember i (range_with_len 1 n) → IsUpTo n i
ranged_up_to n i m = let r = ranged-member 1 n i m in let a = r.0 in let b = r.1 in (a, omega arith)

pub all-at : (p : ℕ → Bool) (xs : List ℕ) (i : ℕ) → list_all p xs ≡ true → IsMember i xs → p i ≡ true
all-at p [] i h m = absurd m
all-at p (x ∷ xs) i h (inl e) = ap p (sym e) ∙ (and_parts (p x) (list_all p xs) h).0
all-at p (x ∷ xs) i h (inr m) = all-at p xs i (and_parts (p x) (list_all p xs) h).1 m

pub all-where : (p : ℕ → Bool) (xs : List ℕ) → ((i : ℕ) → IsMember i xs → p i ≡ true) → list_all p xs ≡ true
all-where p [] h = refl
all-where p (x ∷ xs) h = and_from (p x) (list_all p xs) (h x (inl refl)) (all-where p xs (λ i m. h i (inr m)))

-- ---- free numbers

module _ (before : ℕ → ℕ → Bool) (n : ℕ) where
  -- it is not placed yet, and all that has to stand before it is
  abbrev pub IsFree : List ℕ → ℕ → Type 0
  IsFree placed m = (IsMember m placed → ⊥) × ((i : ℕ) → IsUpTo n i → before i m ≡ true → IsMember i placed)

  pub free_by_test : (placed : List ℕ) (m : ℕ) → is_free before (range_with_len 1 n) placed m ≡ true → IsFree placed m
  free_by_test placed m h = (λ k. holds_not (is_one_of placed m) parts.0 (is_one_of-member placed m k), λ i up e. among i e (or_cases (not (before i m)) (is_one_of placed i) (all-at (λ j. not (before j m) || is_one_of placed j) (range_with_len 1 n) i parts.1 (up_to_ranged n i up))))
    where
      parts : (not (is_one_of placed m) ≡ true) × (list_all (λ i. not (before i m) || is_one_of placed i) (range_with_len 1 n) ≡ true)
      parts = and_parts (not (is_one_of placed m)) (list_all (λ i. not (before i m) || is_one_of placed i) (range_with_len 1 n)) h

      among : (i : ℕ) → before i m ≡ true → (not (before i m) ≡ true) ⊎ (is_one_of placed i ≡ true) → IsMember i placed
      among i e (inl f) = absurd (holds_not (before i m) f e)
      among i e (inr t) = member_of placed i t

  pub free_tested : (placed : List ℕ) (m : ℕ) → IsFree placed m → is_free before (range_with_len 1 n) placed m ≡ true
  free_tested placed m free =
      and_from (not (is_one_of placed m)) (list_all (λ i. not (before i m) || is_one_of placed i) (range_with_len 1 n))
      (fails_where (is_one_of placed m) (λ t. free.0 (member_of placed m t)))
      (all-where (λ i. not (before i m) || is_one_of placed i) (range_with_len 1 n) (λ i k. go i k (before i m) refl))
    where
      go : (i : ℕ) → IsMember i (range_with_len 1 n) → (b : Bool) → before i m ≡ b → (not b || is_one_of placed i) ≡ true
      go i k true e = is_one_of-member placed i (free.1 i (ranged_up_to n i k) e)
      go i k false e = refl

  pub first_free-is : (placed ns : List ℕ) (m : ℕ) → first_free before (range_with_len 1 n) placed ns ≡ Some m → (is_free before (range_with_len 1 n) placed m ≡ true) × IsMember m ns
  first_free-is placed [] m h = absurd (cc)
  first_free-is placed (x ∷ xs) m h = go (is_free before (range_with_len 1 n) placed x) refl h (first_free-is placed xs m)
    where
      go : (b : Bool) → is_free before (range_with_len 1 n) placed x ≡ b → cond b (Some x) (first_free before (range_with_len 1 n) placed xs) ≡ Some m →
          (first_free before (range_with_len 1 n) placed xs ≡ Some m → (is_free before (range_with_len 1 n) placed m ≡ true) × IsMember m xs) →
          (is_free before (range_with_len 1 n) placed m ≡ true) × IsMember m (x ∷ xs)
      go true e is rest = let same : x ≡ m = cc in (subst (λ y. is_free before (range_with_len 1 n) placed y ≡ true) same e, inl same)
      go false e is rest = let r = rest is in (r.0, inr r.1)

  -- ---- orders

  abbrev Before : ℕ → ℕ → Type 0
  Before i j = before i j ≡ true

  -- what was placed and what comes after it
  abbrev pub IsLeft : (order placed done : List ℕ) → Type 0
  IsLeft order placed done = (rest : List ℕ) × (order ≡ placed ++ rest) × ComesAfter n (λ i j. before i j ≡ true) done rest

  pub placed_by-comes : (k : ℕ) (placed done order : List ℕ) → ((x : ℕ) → IsMember x done ↔ IsMember x placed) → length done + k ≡ n →
      placed_by before (range_with_len 1 n) k placed ≡ Some order → IsLeft order placed done
  placed_by-comes zero placed done order same count is = ([], (let same : placed ≡ order = cc in sym same ∙ sym (append-nil placed)), omega arith)
  placed_by-comes (suc k) placed done order same count is = go (first_free before (range_with_len 1 n) placed (range_with_len 1 n)) refl is (λ m. placed_by-comes k (placed ++ m ∷ []) (m ∷ done) order (grown m) (omega arith))
    where
      grown : (m x : ℕ) → IsMember x (m ∷ done) ↔ IsMember x (placed ++ m ∷ [])
      grown m x = (to, back)
        where
          to : (m ≡ x) ⊎ IsMember x done → IsMember x (placed ++ m ∷ [])
          to (inl e) = member_right x placed (m ∷ []) (inl e)
          to (inr k) = member_left x placed (m ∷ []) ((same x).0 k)

          split : (m ≡ x) ⊎ IsMember x placed → (m ≡ x) ⊎ IsMember x done
          split (inl e) = inl e
          split (inr k) = inr ((same x).1 k)

          back : IsMember x (placed ++ m ∷ []) → (m ≡ x) ⊎ IsMember x done
          back k = split (member-split placed m x k)

      go : (o : Option ℕ) → first_free before (range_with_len 1 n) placed (range_with_len 1 n) ≡ o →
          option_and_then (λ m. placed_by before (range_with_len 1 n) k (placed ++ m ∷ [])) o ≡ Some order →
          ((m : ℕ) → placed_by before (range_with_len 1 n) k (placed ++ m ∷ []) ≡ Some order → IsLeft order (placed ++ m ∷ []) (m ∷ done)) → IsLeft order placed done
      go None e h later = absurd (cc)
      go (Some m) e h later =
          let first = first_free-is placed (range_with_len 1 n) m e in
          let free = free_by_test placed m first.0 in
          let left = later m h in (
            m ∷ left.0,
            left.1 ∙ append_assoc placed (m ∷ []) left.0,
            ((ranged_up_to n m first.1, λ k. free.0 ((same m).0 k), λ i up b. (same i).1 (free.1 i up b)), left.2),
          )

  -- in the least order each number comes after all that has to stand before it
  pub least_order-comes : (order : List ℕ) → least_order before n ≡ Some order → ComesAfter n (λ i j. before i j ≡ true) [] order
  least_order-comes order is =
      let left = placed_by-comes n [] [] order (λ x. (λ m. m, λ m. m)) (omega arith) is in
      subst (λ ns. ComesAfter n (λ i j. before i j ≡ true) [] ns) (sym left.1) left.2
