-- As many placed numbers as there are instances are all of them.
use Rattle.std.proofs.Common.{◌≡◌, ◌⊎◌, inl, inr, ℕ, ◌+◌, ◌<◌, ◌≤◌, eqb, true, false, ◌||◌, List, [], ◌∷◌, length, refl, ap, sym, ◌∙◌, arith}
use Rattle.std.specs.List.{list_any, AllByRecursion, IsDistinct}
use Rattle.std.proofs.lemmas.Bool.{cases_Bool}
use Rattle.std.proofs.lemmas.Bool.Decides.{eqb_tells}
use Rattle.std.proofs.lemmas.Map.Keys.{IsDistinct-cons}
use Rattle.std.proofs.lemmas.Map.Steps.{length-le_from_distinct_below}
use Rattle.prog_tree.proofs.Elements.{IsMember}
use Rattle.serial_orders.specs.Orders.{is_one_of, IsUpTo}
use Rattle.serial_orders.proofs.OrderLaws.{member_of, is_one_of-member}
use Rattle.serial_orders.proofs.InTurn.{IsPlaced, FitsAfter, ComesAfter}
use Rattle.serial_orders.proofs.RunsInOrder.{up_to-placed}

-- the same test, with the sides of each equation turned
is_turned : (i : ℕ) (xs : List ℕ) → list_any (eqb i) xs ≡ is_one_of xs i
is_turned i [] = refl
is_turned i (x ∷ xs) = ap (λ b. b || list_any (eqb i) xs) (turned (eqb_tells i x) (eqb_tells x i)) ∙ ap (λ b. eqb x i || b) (is_turned i xs)
  where
    turned : ((eqb i x ≡ true) × (i ≡ x)) ⊎ ((eqb i x ≡ false) × (i ≡ x → ⊥)) → ((eqb x i ≡ true) × (x ≡ i)) ⊎ ((eqb x i ≡ false) × (x ≡ i → ⊥)) → eqb i x ≡ eqb x i
    turned (inl a) (inl b) = a.0 ∙ sym b.0
    turned (inl a) (inr b) = absurd (b.1 (sym a.1))
    turned (inr a) (inl b) = absurd (a.1 (sym b.1))
    turned (inr a) (inr b) = a.0 ∙ sym b.0

no_equal : (i : ℕ) (xs : List ℕ) → (IsMember i xs → ⊥) → AllByRecursion (λ y. eqb i y ≡ false) xs
no_equal i [] absent = tt
no_equal i (x ∷ xs) absent = (go (eqb_tells i x), no_equal i xs (λ m. absent (inr m)))
  where
    go : ((eqb i x ≡ true) × (i ≡ x)) ⊎ ((eqb i x ≡ false) × (i ≡ x → ⊥)) → eqb i x ≡ false
    go (inl e) = absurd (absent (inl (sym e.1)))
    go (inr e) = e.0

module _ (n : ℕ) (R : ℕ → ℕ → Type 0) where
  distinct : (xs : List ℕ) → IsPlaced n R xs → IsDistinct eqb xs
  unfolding IsDistinct
  distinct [] p = tt
  distinct (x ∷ xs) p = (no_equal x xs p.0.1, distinct xs p.1)

  placed_all : (xs : List ℕ) → IsPlaced n R xs → length xs ≡ n → (j : ℕ) → IsUpTo n j → IsMember j xs
  placed_all xs p full j one = go (cases_Bool (list_any (eqb j) xs))
    where
      -- else 0, j and all of xs would be too many numbers up to the count
      go : (list_any (eqb j) xs ≡ true) ⊎ (list_any (eqb j) xs ≡ false) → IsMember j xs
      go (inl t) = member_of xs j (sym (is_turned j xs) ∙ t)
      go (inr f) = absurd crowded
        where
          absent : IsMember j xs → ⊥
          absent m = let t : list_any (eqb j) xs ≡ true = is_turned j xs ∙ is_one_of-member xs j m in let bad : true ≡ false = sym t ∙ f in cc

          no_zero : IsMember 0 (j ∷ xs) → ⊥
          no_zero (inl e) = let a = one.0 in omega arith
          no_zero (inr m) = let a = (up_to-placed n R xs 0 p m).0 in omega arith

          all_distinct : IsDistinct eqb (0 ∷ j ∷ xs)
          all_distinct = IsDistinct-cons eqb 0 (j ∷ xs) (no_equal 0 (j ∷ xs) no_zero) (IsDistinct-cons eqb j xs (no_equal j xs absent) (distinct xs p))

          low : (q : ℕ) → IsMember q (0 ∷ j ∷ xs) → q < n + 1
          low q (inl e) = omega arith
          low q (inr (inl e)) = let b = one.1 in omega arith
          low q (inr (inr m)) = let b = (up_to-placed n R xs q p m).1 in omega arith

          crowded : ⊥
          crowded = let most : length (0 ∷ j ∷ xs) ≤ n + 1 = length-le_from_distinct_below (0 ∷ j ∷ xs) (n + 1) all_distinct (λ q t. low q (member_of (0 ∷ j ∷ xs) q (sym (is_turned q (0 ∷ j ∷ xs)) ∙ t))) in omega arith

  -- in such an order it is enough to count
  pub fits_by_count : (done ns : List ℕ) → IsPlaced n R done → ComesAfter n R done ns → FitsAfter n R done ns
  fits_by_count done [] p full = placed_all done p full
  fits_by_count done (i ∷ is) p c = (c.0, fits_by_count (i ∷ done) is (c.0, p) c.1)
