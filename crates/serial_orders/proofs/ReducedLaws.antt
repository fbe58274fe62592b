-- A relation and the pairs from which it follows by steps: the same least order, and no other cycles.
use Rattle.std.proofs.Common.{◌≡◌, ◌⊎◌, inl, inr, ℕ, zero, suc, Bool, true, cond, List, [], ◌∷◌, ◌++◌, refl, ap, sym, subst, ◌∙◌}
use Rattle.std.specs.Prelude.{Option, Some, None, option_and_then}
use Rattle.std.specs.Cmp.{both_ways}
use Rattle.std.specs.List.{range_with_len}
use Rattle.prog_tree.proofs.Elements.{IsMember, member_left}
use Rattle.serial_orders.specs.Orders.{is_free, first_free, placed_by, least_order, LeadsTo, IsCycle, IsBefore, step, steps, IsUpTo, IsReduced}
use Rattle.serial_orders.proofs.CycleLaws.{cycle-up_to}
use Rattle.serial_orders.proofs.OrderLaws.{member-split, ranged_up_to, free_by_test, free_tested, first_free-is}

module _ (n : ℕ) (reduced before : ℕ → ℕ → Bool) (r : IsReduced n reduced before) where
  -- with each number, all that has to stand before it
  abbrev IsClosed : List ℕ → Type 0
  IsClosed placed = (i j : ℕ) → IsUpTo n i → IsMember j placed → reduced i j ≡ true → IsMember i placed

  placed_before : (placed : List ℕ) → IsClosed placed → (i m : ℕ) → ((k : ℕ) → IsUpTo n k → reduced k m ≡ true → IsMember k placed) → IsUpTo n i → IsBefore reduced i m → IsMember i placed
  placed_before placed closed _ _ next up (step i m e) = next i up e
  placed_before placed closed _ _ next up (steps i k m e rest) = closed i k up (placed_before placed closed k m next (r.within i k e) rest) e

  free_same : (placed : List ℕ) → IsClosed placed → (m : ℕ) → IsUpTo n m → is_free reduced (range_with_len 1 n) placed m ≡ is_free before (range_with_len 1 n) placed m
  free_same placed closed m here = both_ways (is_free reduced (range_with_len 1 n) placed m) (is_free before (range_with_len 1 n) placed m) to back
    where
      to : is_free reduced (range_with_len 1 n) placed m ≡ true → is_free before (range_with_len 1 n) placed m ≡ true
      to t =
          let f = free_by_test reduced n placed m t in
          free_tested before n placed m (f.0, λ i up e. placed_before placed closed i m f.1 up (r.whole i m up here e))

      back : is_free before (range_with_len 1 n) placed m ≡ true → is_free reduced (range_with_len 1 n) placed m ≡ true
      back t =
          let f = free_by_test before n placed m t in
          free_tested reduced n placed m (f.0, λ i up e. f.1 i up (r.sound i m up here e))

  first_same : (placed : List ℕ) → IsClosed placed → (ns : List ℕ) → ((m : ℕ) → IsMember m ns → IsUpTo n m) → first_free reduced (range_with_len 1 n) placed ns ≡ first_free before (range_with_len 1 n) placed ns
  first_same placed closed [] within = refl
  first_same placed closed (x ∷ xs) within =
      ap (λ b. cond b (Some x) (first_free reduced (range_with_len 1 n) placed xs)) (free_same placed closed x (within x (inl refl)))
      ∙ ap (λ o. cond (is_free before (range_with_len 1 n) placed x) (Some x) o) (first_same placed closed xs (λ m k. within m (inr k)))

  closed_more : (placed : List ℕ) → IsClosed placed → (m : ℕ) → ((k : ℕ) → IsUpTo n k → reduced k m ≡ true → IsMember k placed) → IsClosed (placed ++ m ∷ [])
  closed_more placed closed m next i j up k e = member_left i placed (m ∷ []) (go (member-split placed m j k))
    where
      go : (m ≡ j) ⊎ IsMember j placed → IsMember i placed
      go (inl same) = next i up (subst (λ x. reduced i x ≡ true) (sym same) e)
      go (inr old) = closed i j up old e

  orders_same : (k : ℕ) (placed : List ℕ) → IsClosed placed → placed_by reduced (range_with_len 1 n) k placed ≡ placed_by before (range_with_len 1 n) k placed
  orders_same zero placed closed = refl
  orders_same (suc k) placed closed =
      go (first_free reduced (range_with_len 1 n) placed (range_with_len 1 n)) refl (λ m more. orders_same k (placed ++ m ∷ []) more)
      ∙ ap (option_and_then (λ m. placed_by before (range_with_len 1 n) k (placed ++ m ∷ []))) (first_same placed closed (range_with_len 1 n) (λ m here. ranged_up_to n m here))
    where
      go : (o : Option ℕ) → first_free reduced (range_with_len 1 n) placed (range_with_len 1 n) ≡ o →
          ((m : ℕ) → IsClosed (placed ++ m ∷ []) → placed_by reduced (range_with_len 1 n) k (placed ++ m ∷ []) ≡ placed_by before (range_with_len 1 n) k (placed ++ m ∷ [])) →
          option_and_then (λ m. placed_by reduced (range_with_len 1 n) k (placed ++ m ∷ [])) o ≡ option_and_then (λ m. placed_by before (range_with_len 1 n) k (placed ++ m ∷ [])) o
      go None e later = refl
      go (Some m) e later =
          let free = free_by_test reduced n placed m (first_free-is reduced n placed (range_with_len 1 n) m e).0 in
          later m (closed_more placed closed m free.1)

  pub least_order_same : least_order reduced n ≡ least_order before n
  least_order_same = orders_same n [] (λ i j up m e. m)

  -- ---- cycles

  leads_same : (xs : List ℕ) (end : ℕ) → ((x : ℕ) → IsMember x xs → IsUpTo n x) → IsUpTo n end → LeadsTo reduced xs end → LeadsTo before xs end
  leads_same [] end within last leads = tt
  leads_same (i ∷ []) end within last leads = r.sound i end (within i (inl refl)) last leads
  leads_same (i ∷ j ∷ js) end within last leads =
      (r.sound i j (within i (inl refl)) (within j (inr (inl refl))) leads.0, leads_same (j ∷ js) end (λ x m. within x (inr m)) last leads.1)

  pub cycle_same : (numbers : List ℕ) → IsCycle reduced numbers → IsCycle before numbers
  cycle_same numbers c = record {
    first = c.first;
    rest = c.rest;
    is = c.is;
    leads = leads_same numbers c.first (cycle-up_to reduced n r.within numbers c) (cycle-up_to reduced n r.within numbers c c.first (subst (λ xs. IsMember c.first xs) (sym c.is) (inl refl))) c.leads;
    least = c.least;
    once = c.once;
  }
