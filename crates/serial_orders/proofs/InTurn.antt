-- Orders in which each number from 1 to n comes after all that a relation puts before it.
use Rattle.std.specs.Prelude.{◌≡◌, ℕ, List, [], ◌∷◌, length}
use Rattle.prog_tree.proofs.Elements.{IsMember}
use Rattle.serial_orders.specs.Orders.{IsUpTo}

module _ (n : ℕ) (R : ℕ → ℕ → Type 0) where
  -- it is not done yet, and all that has to stand before it is
  abbrev pub IsNext : List ℕ → ℕ → Type 0
  IsNext done i = IsUpTo n i × (IsMember i done → ⊥) × ((j : ℕ) → IsUpTo n j → R j i → IsMember j done)

  -- the latest first: each was next after those behind it in the list
  abbrev pub IsPlaced : List ℕ → Type 0
  IsPlaced [] = Unit {0}
  IsPlaced (i ∷ earlier) = IsNext earlier i × IsPlaced earlier

  -- the earliest first, after those that are done: each is next in its turn, and at the end all are done
  abbrev pub FitsAfter : List ℕ → List ℕ → Type 0
  FitsAfter done [] = (j : ℕ) → IsUpTo n j → IsMember j done
  FitsAfter done (i ∷ is) = IsNext done i × FitsAfter (i ∷ done) is

  -- the same, where at the end as many are done as there are numbers
  abbrev pub ComesAfter : List ℕ → List ℕ → Type 0
  ComesAfter done [] = length done ≡ n
  ComesAfter done (i ∷ is) = IsNext done i × ComesAfter (i ∷ done) is
