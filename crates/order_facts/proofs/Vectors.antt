-- Worked examples of the definitions, told by hand.
use Rattle.std.proofs.Common.{◌≡◌, List, [], ◌∷◌, true, false, pos, inl, refl, arith}
use Rattle.std.proofs.lemmas.Int.{ints}
use Rattle.order_facts.specs.declared.steps.Node.TheVariants.{Mine, Theirs, Number}
use Rattle.order_facts.specs.declared.steps.Fact.{Fact}
use Rattle.prog_tree.specs.Number.{least, greatest}
use Rattle.order_facts.specs.Chain.{IsChain, RunsBetween, IsPlainStep}
use Rattle.order_facts.specs.Reaches.{is_below, reaches}
use Rattle.order_facts.specs.Sample.{sample_number, IsNearest}

-- 1 <= 2 and 2 <= 1, both given
abbrev falling : List Fact
falling = record { lo = Number (pos 1); hi = Number (pos 2) } ∷ record { lo = Number (pos 2); hi = Number (pos 1) } ∷ []

-- 1 <= k and k <= 2
abbrev one_to_two : List Fact
one_to_two = record { lo = Number (pos 1); hi = Mine 0 } ∷ record { lo = Mine 0; hi = Number (pos 2) } ∷ []

-- the second given fact is a chain from 2 to 1
falling-chain : IsChain falling (Number (pos 2) ∷ Number (pos 1) ∷ [])
falling-chain = (inl (1, omega arith, refl), tt)

falling-runs : RunsBetween (Number (pos 2)) (Number (pos 1)) (Number (pos 2) ∷ Number (pos 1) ∷ [])
falling-runs = (refl, refl)

-- so 2 reaches 1
falling-reaches : reaches falling (Number (pos 2)) (Number (pos 1)) ≡ true
unfolding reaches is_below
falling-reaches = refl

-- k is at least 1, and not known to be at most 1
one-reaches : reaches one_to_two (Number (pos 1)) (Mine 0) ≡ true
unfolding reaches is_below
one-reaches = refl

two-reaches : reaches one_to_two (Mine 0) (Number (pos 1)) ≡ false
unfolding reaches is_below
two-reaches = refl

-- the greatest i64 may stand behind anything, and the least before anything
last-greatest : IsPlainStep (Theirs 3) (Number greatest)
last-greatest = omega (arith, ints)

first-least : IsPlainStep (Number least) (Mine 0)
first-least = omega (arith, ints)

-- from 1 to 2 the number nearest to 0 is 1, and from the least to the greatest it is 0
nearest-one : IsNearest (pos 1) (pos 2) (pos 1)
nearest-one = record { at_least = omega (arith, ints); at_most = omega (arith, ints); nearest = λ w a b. omega (arith, ints) }

nearest-zero : IsNearest least greatest (pos 0)
nearest-zero = record { at_least = omega (arith, ints); at_most = omega (arith, ints); nearest = λ w a b. omega (arith, ints) }

-- a number is itself, a node without a choice is 0, and the first choice counts
numbers : (sample_number (record { node = Mine 0; number = pos 5 } ∷ record { node = Mine 0; number = pos 6 } ∷ []) (Mine 0) ≡ pos 5) × (sample_number [] (Theirs 1) ≡ pos 0) × (sample_number [] (Number (pos 9)) ≡ pos 9)
numbers = (refl, refl, refl)
