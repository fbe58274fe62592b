-- A list that has each number once, none of which has to stand before an earlier one: each is next in its turn.
use Rattle.std.proofs.Common.{◌≡◌, ◌⊎◌, inl, inr, ℕ, zero, suc, ◌+◌, ◌<◌, ◌≤◌, eqb, Bool, true, false, List, [], ◌∷◌, ◌++◌, length, refl, ap, sym, subst, ◌∙◌, arith}
use Rattle.std.specs.List.{list_all, range_with_len}
use Rattle.std.proofs.lemmas.Bool.{cases_lt, eqb-true, and_parts}
use Rattle.std.proofs.lemmas.List.{length-append}
use Rattle.prog_tree.proofs.Elements.{IsMember, member_all, member_left, member_right}
use Rattle.serial_orders.specs.Orders.{is_one_of, IsForward, IsUpTo}
use Rattle.history_book.specs.Serial.{is_each_once}
use Rattle.serial_orders.proofs.OrderLaws.{all-at, member_of, up_to_ranged}
use Rattle.serial_orders.proofs.InTurn.{FitsAfter}

-- what is left of a list without one of its numbers
abbrev IsWithout : List ℕ → ℕ → List ℕ → Type 0
IsWithout ys x zs = (length ys ≡ suc (length zs)) × ((y : ℕ) → IsMember y ys → (x ≡ y) ⊎ IsMember y zs)

removed : (ys : List ℕ) (x : ℕ) → IsMember x ys → (zs : List ℕ) × IsWithout ys x zs
removed [] x m = absurd m
removed (y ∷ ys) x (inl e) = (ys, (refl, λ k m. turn k m))
  where
    turn : (k : ℕ) → (y ≡ k) ⊎ IsMember k ys → (x ≡ k) ⊎ IsMember k ys
    turn k (inl same) = inl (sym e ∙ same)
    turn k (inr m) = inr m
removed (y ∷ ys) x (inr m) = let r = removed ys x m in (y ∷ r.0, (ap suc r.1.0, λ k h. keep r.0 r.1.1 k h))
  where
    keep : (zs : List ℕ) → ((k : ℕ) → IsMember k ys → (x ≡ k) ⊎ IsMember k zs) → (k : ℕ) → (y ≡ k) ⊎ IsMember k ys → (x ≡ k) ⊎ ((y ≡ k) ⊎ IsMember k zs)
    keep zs others k (inl e) = inr (inl e)
    keep zs others k (inr h) = go (others k h)
      where
        go : (x ≡ k) ⊎ IsMember k zs → (x ≡ k) ⊎ ((y ≡ k) ⊎ IsMember k zs)
        go (inl e) = inl e
        go (inr z) = inr (inr z)

-- each number up to n is among the others
among_others : (n : ℕ) (zs : List ℕ) (i : ℕ) → IsUpTo n i → (suc n ≡ i) ⊎ IsMember i zs → IsMember i zs
among_others n zs i up (inl e) = absurd (let b = up.1 in omega arith)
among_others n zs i up (inr m) = m

-- a list with all numbers up to n is as long at least
pub long_enough : (n : ℕ) (ys : List ℕ) → ((i : ℕ) → IsUpTo n i → IsMember i ys) → n ≤ length ys
long_enough zero ys all = omega arith
long_enough (suc n) ys all =
    let r = removed ys (suc n) (all (suc n) (omega arith, omega arith)) in
    let less = long_enough n r.0 (λ i up. let b = up.1 in among_others n r.0 i up (r.1.1 i (all i (up.0, omega arith)))) in
    let more = r.1.0 in
    omega arith

-- one that is just as long has no other number
pub none_else : (n : ℕ) (ys : List ℕ) → length ys ≡ n → ((i : ℕ) → IsUpTo n i → IsMember i ys) → (k : ℕ) → IsMember k ys → IsUpTo n k
none_else zero [] size all k h = absurd h
none_else zero (y ∷ ys) size all k h = absurd (omega arith)
none_else (suc n) ys size all k h =
    let r = removed ys (suc n) (all (suc n) (omega arith, omega arith)) in
    go r.0 (r.1.1 k h)
    (none_else n r.0 (omega (arith, r.1.0)) (λ i up. let b = up.1 in among_others n r.0 i up (r.1.1 i (all i (up.0, omega arith)))) k)
  where
    go : (zs : List ℕ) → (suc n ≡ k) ⊎ IsMember k zs → (IsMember k zs → IsUpTo n k) → IsUpTo (suc n) k
    go zs (inl same) rest = (omega arith, omega arith)
    go zs (inr other) rest = let up = rest other in (up.0, omega (arith, up.1))

module _ (before : ℕ → ℕ → Bool) (n : ℕ) (no_loop : (i : ℕ) → before i i ≡ true → ⊥) where
  abbrev Covers : List ℕ → List ℕ → Type 0
  Covers done ns = (j : ℕ) → IsUpTo n j → IsMember j done ⊎ IsMember j ns

  -- without one that could be left out, there would be too few
  too_few : (done ns : List ℕ) → length done + length ns < n → Covers done ns → ⊥
  too_few done ns short covers =
      let most = long_enough n (done ++ ns) (λ i up. both i (covers i up)) in
      omega (arith, length-append done ns)
    where
      both : (i : ℕ) → IsMember i done ⊎ IsMember i ns → IsMember i (done ++ ns)
      both i (inl m) = member_left i done ns m
      both i (inr m) = member_right i done ns m

  new : (done : List ℕ) (i : ℕ) (is : List ℕ) → length done + length (i ∷ is) ≡ n → Covers done (i ∷ is) → IsMember i done → ⊥
  new done i is count covers m = too_few done is (omega arith) (λ j up. go j (covers j up))
    where
      go : (j : ℕ) → IsMember j done ⊎ ((i ≡ j) ⊎ IsMember j is) → IsMember j done ⊎ IsMember j is
      go j (inl k) = inl k
      go j (inr (inl e)) = inl (subst (λ x. IsMember x done) e m)
      go j (inr (inr k)) = inr k

  within : (done : List ℕ) (i : ℕ) (is : List ℕ) → length done + length (i ∷ is) ≡ n → Covers done (i ∷ is) → IsUpTo n i
  within done i is count covers = cases (cases_lt 0 i) (cases_lt n i)
    where
      outside : (IsUpTo n i → ⊥) → ⊥
      outside out = too_few done is (omega arith) (λ j up. go j up (covers j up))
        where
          go : (j : ℕ) → IsUpTo n j → IsMember j done ⊎ ((i ≡ j) ⊎ IsMember j is) → IsMember j done ⊎ IsMember j is
          go j up (inl k) = inl k
          go j up (inr (inl e)) = absurd (out (subst (IsUpTo n) (sym e) up))
          go j up (inr (inr k)) = inr k

      cases : (0 < i) ⊎ (i ≤ 0) → (n < i) ⊎ (i ≤ n) → IsUpTo n i
      cases (inl low) (inr high) = (omega arith, high)
      cases (inl low) (inl high) = absurd (outside (λ up. let b = up.1 in omega arith))
      cases (inr low) (inl high) = absurd (outside (λ up. let a = up.0 in omega arith))
      cases (inr low) (inr high) = absurd (outside (λ up. let a = up.0 in omega arith))

  forward_after : (done ns : List ℕ) → length done + length ns ≡ n → Covers done ns → IsForward before ns → FitsAfter n (λ i j. before i j ≡ true) done ns
  forward_after done [] count covers onward = λ j up. there j (covers j up)
    where
      there : (j : ℕ) → IsMember j done ⊎ IsMember j [] → IsMember j done
      there j (inl m) = m
      there j (inr m) = absurd m
  forward_after done (i ∷ is) count covers onward = (
    (within done i is count covers, new done i is count covers, λ j up t. earlier j t (covers j up)),
    forward_after (i ∷ done) is (omega arith) (λ j up. moved j (covers j up)) onward.1,
  )
    where
      earlier : (j : ℕ) → before j i ≡ true → IsMember j done ⊎ ((i ≡ j) ⊎ IsMember j is) → IsMember j done
      earlier j t (inl m) = m
      earlier j t (inr (inl e)) = absurd (no_loop i (subst (λ x. before x i ≡ true) (sym e) t))
      earlier j t (inr (inr m)) = absurd (let f = member_all (λ x. before x i ≡ false) is j onward.0 m in let bad : true ≡ false = sym t ∙ f in cc)

      moved : (j : ℕ) → IsMember j done ⊎ ((i ≡ j) ⊎ IsMember j is) → ((i ≡ j) ⊎ IsMember j done) ⊎ IsMember j is
      moved j (inl m) = inl (inr m)
      moved j (inr (inl e)) = inl (inl e)
      moved j (inr (inr m)) = inr m

  pub forward_fits : (order : List ℕ) → is_each_once n order ≡ true → IsForward before order → FitsAfter n (λ i j. before i j ≡ true) [] order
  forward_fits order once onward = forward_after [] order (let e = eqb-true (length order) n parts.0 in omega arith) (λ j up. inr (member_of order j (all-at (is_one_of order) (range_with_len 1 n) j parts.1 (up_to_ranged n j up)))) onward
    where
      parts : (eqb (length order) n ≡ true) × (list_all (is_one_of order) (range_with_len 1 n) ≡ true)
      parts = and_parts (eqb (length order) n) (list_all (is_one_of order) (range_with_len 1 n)) once
