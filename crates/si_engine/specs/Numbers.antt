-- The numbers that words are.
use Rattle.std.specs.Prelude.{ℕ, ◌+◌, ◌-◌, ◌*◌, ◌==◌, nat_le, Bool, ◌&&◌, fold, ℤ, pos, List, [], ◌∷◌, Option, Some, None, option_map, option_and_then, if◌then◌else◌}
use Rattle.std.specs.List.{list_all}
use Rattle.std.proofs.Common.{neg_ℤ}
use Rattle.prog_tree.specs.Value.{exact}

-- `0` to `9`
abbrev pub is_digit : ℕ → Bool
is_digit b = nat_le 48 b && nat_le b 57

-- the value of digits
abbrev pub digits_value : List ℕ → ℕ
digits_value digits = fold (λ n b. 10 * n + (b - 48)) 0 digits

-- the value of digits, of which there is at least one
abbrev pub natural_of : List ℕ → Option ℕ
natural_of [] = None
natural_of (b ∷ bs) = if list_all is_digit (b ∷ bs) then Some (digits_value (b ∷ bs)) else None

-- digits, or digits behind a minus sign
abbrev pub integer_of : List ℕ → Option ℤ
integer_of [] = None
integer_of (b ∷ bs) =
    if b == 45 then option_map (λ n. neg_ℤ (pos n)) (natural_of bs)
    else option_map pos (natural_of (b ∷ bs))

-- a number from low to high
abbrev pub between : (low high : ℕ) → ℤ → Option ℕ
between low high (pos n) = if nat_le low n && nat_le n high then Some n else None
between low high z = None

-- the greatest number of u64
abbrev pub max_u64 : ℕ
max_u64 = 18446744073709551615

-- a number with one more digit behind it, where the byte is one and the number is still one of u64
abbrev pub with_digit : ℕ → ℕ → Option ℕ
with_digit value byte = if is_digit byte then between 0 max_u64 (pos (10 * value + (byte - 48))) else None

-- a number that is one of i64
abbrev pub i64_of : List ℕ → Option ℤ
i64_of word = option_and_then exact (integer_of word)

-- a number from low to high that a word is
abbrev pub number_between : (low high : ℕ) → List ℕ → Option ℕ
number_between low high word = option_and_then (between low high) (i64_of word)

-- a number that is one of u64
abbrev pub u64_of : List ℕ → Option ℕ
u64_of word = option_and_then (between 0 max_u64) (integer_of word)

-- the numbers of words, if all of them are such
abbrev pub numbers_of : List (List ℕ) → Option (List ℤ)
numbers_of [] = Some []
numbers_of (word ∷ words) = option_and_then (λ n. option_map (λ ns. n ∷ ns) (numbers_of words)) (i64_of word)
