-- Worked examples of the definitions, told by hand.
use Rattle.std.proofs.Common.{◌≡◌, ℕ, zero, suc, ◌<◌, get_or, List, [], ◌∷◌, Some, None, refl, arith}
use Rattle.serial_orders.specs.Orders.{least_order, IsCycle}
use Rattle.serial_orders.specs.Precedence.{precedes}
use Rattle.serial_orders.specs.Placing.{waits_from}

-- 1 behind 3, and 2 behind 4
abbrev two_pairs : List (List ℕ)
two_pairs = [] ∷ [] ∷ (1 ∷ []) ∷ (2 ∷ []) ∷ []

-- 3 is free before 1, and 1 is then less than 4
two_pairs-order : least_order (precedes two_pairs) 4 ≡ Some (3 ∷ 1 ∷ 4 ∷ 2 ∷ [])
two_pairs-order = refl

-- with no pair the order is that of the numbers
no_pair-order : least_order (precedes ([] ∷ [] ∷ [] ∷ [])) 3 ≡ Some (1 ∷ 2 ∷ 3 ∷ [])
no_pair-order = refl

-- 1 is free; 2, 4 and 3 stand each before the next, and 3 before 2
abbrev one_cycle : List (List ℕ)
one_cycle = [] ∷ (4 ∷ []) ∷ (2 ∷ []) ∷ (3 ∷ 3 ∷ []) ∷ []

one_cycle-order : least_order (precedes one_cycle) 4 ≡ None
one_cycle-order = refl

-- a pair that is told twice counts twice, until its first number is placed
one_cycle-waits : waits_from 1 one_cycle (1 ∷ []) 3 ≡ 2
one_cycle-waits = refl

one_cycle-placed : waits_from 1 one_cycle (4 ∷ []) 3 ≡ 0
one_cycle-placed = refl

above_two : (k d : ℕ) → k < 2 → 2 < get_or (4 ∷ 3 ∷ []) k d
above_two zero d h = omega arith
above_two (suc zero) d h = omega arith
above_two (suc (suc k)) d h = absurd (omega arith)

-- the cycle reads from its least number along the pairs
one_cycle-cycle : IsCycle (precedes one_cycle) (2 ∷ 4 ∷ 3 ∷ [])
one_cycle-cycle = record {
  first = 2;
  rest = 4 ∷ 3 ∷ [];
  is = refl;
  leads = (refl, (refl, refl));
  least = above_two;
  once = (refl, (refl, tt));
}

-- a number that has to stand before itself is a cycle alone
alone-cycle : IsCycle (precedes ((1 ∷ []) ∷ [])) (1 ∷ [])
alone-cycle = record { first = 1; rest = []; is = refl; leads = refl; least = λ k d h. absurd (omega arith); once = tt }
