-- Where there is a least order, there is no cycle.
use Rattle.std.proofs.Common.{◌≡◌, ◌⊎◌, inl, inr, ℕ, Bool, true, List, [], ◌∷◌, refl, sym, subst}
use Rattle.std.specs.Prelude.{Some}
use Rattle.prog_tree.proofs.Elements.{IsMember}
use Rattle.serial_orders.specs.Orders.{LeadsTo, IsCycle, IsUpTo, least_order}
use Rattle.serial_orders.proofs.OrderLaws.{least_order-comes}
use Rattle.serial_orders.proofs.PlacedLaws.{fits_by_count}
use Rattle.serial_orders.proofs.InTurn.{FitsAfter}

module _ (before : ℕ → ℕ → Bool) where
  -- one of the list has to stand before it
  abbrev pub HasBefore : List ℕ → ℕ → Type 0
  HasBefore xs x = (y : ℕ) × IsMember y xs × (before y x ≡ true)

  longer : (i : ℕ) (xs : List ℕ) (x : ℕ) → HasBefore xs x → HasBefore (i ∷ xs) x
  longer i xs x h = (h.0, inr h.1, h.2)

  -- the end and all but the first have one of the list before them
  led : (i : ℕ) (js : List ℕ) (end x : ℕ) → LeadsTo before (i ∷ js) end → (end ≡ x) ⊎ IsMember x js → HasBefore (i ∷ js) x
  led i [] end x leads (inl e) = (i, inl refl, subst (λ k. before i k ≡ true) e leads)
  led i [] end x leads (inr m) = absurd m
  led i (j ∷ js) end x leads (inl e) = longer i (j ∷ js) x (led j js end x leads.1 (inl e))
  led i (j ∷ js) end x leads (inr (inl e)) = (i, inl refl, subst (λ k. before i k ≡ true) e leads.0)
  led i (j ∷ js) end x leads (inr (inr m)) = longer i (j ∷ js) x (led j js end x leads.1 (inr m))

  pub cycle-before : (numbers : List ℕ) → IsCycle before numbers → (x : ℕ) → IsMember x numbers → HasBefore numbers x
  cycle-before numbers c x m =
      let leads = subst (λ xs. LeadsTo before xs c.first) c.is c.leads in
      let one = subst (λ xs. IsMember x xs) c.is m in
      subst (λ xs. HasBefore xs x) (sym c.is) (led c.first c.rest c.first x leads one)

  module _ (n : ℕ) (within : (i j : ℕ) → before i j ≡ true → IsUpTo n j) where
    pub cycle-up_to : (numbers : List ℕ) → IsCycle before numbers → (x : ℕ) → IsMember x numbers → IsUpTo n x
    cycle-up_to numbers c x m = let b = cycle-before numbers c x m in within b.0 x b.2

    first_of_cycle : (numbers : List ℕ) (c : IsCycle before numbers) → IsMember c.first numbers
    first_of_cycle numbers c = subst (λ xs. IsMember c.first xs) (sym c.is) (inl refl)

    -- none of a cycle can be placed first
    never_placed : (numbers : List ℕ) → IsCycle before numbers → (done ns : List ℕ) → FitsAfter n (λ i j. before i j ≡ true) done ns →
        ((x : ℕ) → IsMember x numbers → IsMember x done → ⊥) → ⊥
    never_placed numbers c done [] fits apart =
        apart c.first (first_of_cycle numbers c) (fits c.first (cycle-up_to numbers c c.first (first_of_cycle numbers c)))
    never_placed numbers c done (i ∷ is) fits apart = never_placed numbers c (i ∷ done) is fits.1 go
      where
        go : (x : ℕ) → IsMember x numbers → (i ≡ x) ⊎ IsMember x done → ⊥
        go x m (inl e) =
            let b = cycle-before numbers c x m in
            apart b.0 b.1 (fits.0.2 b.0 (cycle-up_to numbers c b.0 b.1) (subst (λ k. before b.0 k ≡ true) (sym e) b.2))
        go x m (inr k) = apart x m k

    pub no_cycle : (order numbers : List ℕ) → least_order before n ≡ Some order → IsCycle before numbers → ⊥
    no_cycle order numbers is c =
        never_placed numbers c [] order (fits_by_count n (λ i j. before i j ≡ true) [] order tt (least_order-comes before n order is)) (λ x m k. k)
