-- The worked example: three numbers, of which one pass drew the first and a second the others.
use Rattle.std.proofs.Common.{[], ◌∷◌, refl, arith}
use Rattle.std.proofs.lemmas.Bool.Decides.{nat_tests}
use Rattle.job_counter.specs.Holdings.{IsAccount, holding}

pub three_drawn : IsAccount 3 3 (holding 0 (0 ∷ []) ∷ holding 0 (1 ∷ 2 ∷ []) ∷ [])
three_drawn = record { drawn = refl; adds_up = refl; once = λ x. grind (arith, nat_tests) }

-- a number that two passes hold is no account
pub twice_drawn : IsAccount 2 2 (holding 0 (0 ∷ []) ∷ holding 0 (0 ∷ []) ∷ []) → ⊥
twice_drawn a = let two = a.once 0 in cc
