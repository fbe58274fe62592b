-- The least order of a lawful history's dependencies fits.
use Rattle.std.proofs.Common.{◌≡◌, ◌⊎◌, inl, inr, ℕ, ◌+◌, eqb, true, List, [], ◌∷◌, length, arith, refl}
use Rattle.std.specs.Prelude.{Some}
use Rattle.std.specs.List.{list_all, range_with_len}
use Rattle.std.proofs.lemmas.Bool.{eq-eqb, and_from, and_parts}
use Rattle.prog_tree.specs.Syntax.{DraftTree}
use Rattle.prog_tree.specs.Table.{TableState, IsTableState}
use Rattle.prog_tree.proofs.Elements.{IsMember}
use Rattle.history_book.specs.Dependencies.{depends}
use Rattle.history_book.specs.History.{Instance, IsLawful}
use Rattle.serial_orders.specs.Orders.{is_one_of, least_order, IsCycle, IsForward, IsUpTo}
use Rattle.history_book.specs.Serial.{is_each_once, Fits, RunsTheSame}
use Rattle.serial_orders.proofs.CycleLaws.{no_cycle}
use Rattle.history_book.proofs.DependencyLaws.{DependsOn, depends_tells, depends_within, start_at-below}
use Rattle.history_book.proofs.ForwardLaws.{forward_fits}
use Rattle.serial_orders.proofs.OrderLaws.{holds_not, all-where, is_one_of-member, ranged_up_to, least_order-comes}
use Rattle.serial_orders.proofs.PlacedLaws.{fits_by_count}
use Rattle.serial_orders.proofs.InTurn.{FitsAfter, ComesAfter}
use Rattle.history_book.proofs.SerialLaws.{serial_runs_same, serial_runs}

module _ (n : ℕ) (R : ℕ → ℕ → Type 0) where
  as_many : (done ns : List ℕ) → ComesAfter n R done ns → length done + length ns ≡ n
  as_many done [] c = omega arith
  as_many done (i ∷ is) c = let e = as_many (i ∷ done) is c.1 in omega arith

  placed_in : (done ns : List ℕ) → FitsAfter n R done ns → (j : ℕ) → IsUpTo n j → IsMember j done ⊎ IsMember j ns
  placed_in done [] fits j up = inl (fits j up)
  placed_in done (i ∷ is) fits j up = go (placed_in (i ∷ done) is fits.1 j up)
    where
      go : ((i ≡ j) ⊎ IsMember j done) ⊎ IsMember j is → IsMember j done ⊎ ((i ≡ j) ⊎ IsMember j is)
      go (inl (inl e)) = inr (inl e)
      go (inl (inr m)) = inl m
      go (inr m) = inr (inr m)

  -- all numbers, each once
  each_once : (order : List ℕ) → ComesAfter n R [] order → is_each_once n order ≡ true
  each_once order c =
      and_from (eqb (length order) n) (list_all (is_one_of order) (range_with_len 1 n))
      (eq-eqb (length order) n (let e = as_many [] order c in omega arith))
      (all-where (is_one_of order) (range_with_len 1 n) (λ i m. is_one_of-member order i (there i (placed_in [] order (fits_by_count n R [] order tt c) i (ranged_up_to n i m)))))
    where
      there : (i : ℕ) → IsMember i [] ⊎ IsMember i order → IsMember i order
      there i (inl m) = absurd m
      there i (inr m) = m

-- a relation that says no more keeps an order
fits_after_less :
    (n : ℕ) (R Q : ℕ → ℕ → Type 0) → ((i j : ℕ) → IsUpTo n i → IsUpTo n j → Q i j → R i j) →
    (done ns : List ℕ) → FitsAfter n R done ns → FitsAfter n Q done ns
fits_after_less n R Q less done [] f = f
fits_after_less n R Q less done (i ∷ is) f =
    ((f.0.0, f.0.1, λ j up q. f.0.2 j up (less j i up f.0.0 q)), fits_after_less n R Q less (i ∷ done) is f.1)

module _ (set : DraftTree) (opening : TableState) (h : List Instance) (lawful : IsLawful set opening h) where
  abbrev IsBefore : ℕ → ℕ → Type 0
  IsBefore i j = depends set opening h i j ≡ true

  by_cells : (order : List ℕ) → FitsAfter (length h) IsBefore [] order → FitsAfter (length h) (DependsOn set opening h) [] order
  by_cells order fits = fits_after_less (length h) IsBefore (DependsOn set opening h) tests [] order fits
    where
      tests : (i j : ℕ) → IsUpTo (length h) i → IsUpTo (length h) j → DependsOn set opening h i j → depends set opening h i j ≡ true
      tests i j first second d = (depends_tells set opening h i j (start_at-below h lawful.starts j second)).1 d

  pub least_order-fits : IsTableState opening → (order : List ℕ) → least_order (depends set opening h) (length h) ≡ Some order → Fits set opening h order
  least_order-fits ordered order is = record {
    once = each_once (length h) IsBefore order comes;
    runs = serial_runs set opening h lawful ordered order (by_cells order (fits_by_count (length h) IsBefore [] order tt comes));
  }
    where
      comes : ComesAfter (length h) IsBefore [] order
      comes = least_order-comes (depends set opening h) (length h) order is

  pub dependencies_without_cycle : (order numbers : List ℕ) → least_order (depends set opening h) (length h) ≡ Some order → IsCycle (depends set opening h) numbers → ⊥
  dependencies_without_cycle =
      no_cycle (depends set opening h) (length h) (λ i j t. (depends_within set opening h i j t).1)

  no_loop : (i : ℕ) → depends set opening h i i ≡ true → ⊥
  no_loop i t = holds_not (eqb i i) (and_parts _ _ t).0 (eq-eqb i i refl)

  forward : (order : List ℕ) → is_each_once (length h) order ≡ true → IsForward (depends set opening h) order → FitsAfter (length h) (DependsOn set opening h) [] order
  forward order once onward = by_cells order (forward_fits (depends set opening h) (length h) no_loop order once onward)

  -- an order of all instances in which none depends on a later one: each does what it did, and the order fits
  pub forward-runs : IsTableState opening → (order : List ℕ) → is_each_once (length h) order ≡ true → IsForward (depends set opening h) order → RunsTheSame set opening h order opening
  forward-runs ordered order once onward = serial_runs_same set opening h lawful ordered order (forward order once onward)

  pub forward-fits : IsTableState opening → (order : List ℕ) → is_each_once (length h) order ≡ true → IsForward (depends set opening h) order → Fits set opening h order
  forward-fits ordered order once onward = record { once = once; runs = serial_runs set opening h lawful ordered order (forward order once onward) }
