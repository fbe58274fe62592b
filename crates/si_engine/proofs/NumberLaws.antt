-- Digits that are read one after another.
use Rattle.std.proofs.Common.{◌≡◌, ℕ, ◌+◌, ◌-◌, ◌*◌, ◌≤◌, ◌<◌, true, false, nat_le, fold, pos, List, [], ◌∷◌, length, Option, Some, None, option_and_then, ◌⊎◌, inl, inr, refl, sym, ◌∙◌, arith, if◌then◌else◌}
use Rattle.std.specs.List.{list_all}
use Rattle.std.proofs.Math.Dec.{leb-zero}
use Rattle.std.proofs.lemmas.Bool.{cases_Bool, leb-true, leb-false, le-leb, lt-leb}
use Rattle.si_engine.specs.Numbers.{is_digit, natural_of, between, max_u64, with_digit}

-- the number that digits behind others make, as far as it is one of u64
abbrev pub read_from : ℕ → List ℕ → Option ℕ
read_from value [] = Some value
read_from value (byte ∷ bytes) = option_and_then (λ n. read_from n bytes) (with_digit value byte)

abbrev with_digits : ℕ → List ℕ → ℕ
with_digits value bytes = fold (λ n b. 10 * n + (b - 48)) value bytes

-- more digits make no smaller number
grows : (value : ℕ) (bytes : List ℕ) → value ≤ with_digits value bytes
grows value [] = omega arith
grows value (b ∷ bs) = let more = grows (10 * value + (b - 48)) bs in omega (arith, more)

fits : (n : ℕ) → n ≤ max_u64 → between 0 max_u64 (pos n) ≡ Some n
fits n small = rw (leb-zero n, le-leb n max_u64 small) refl

too_large : (n : ℕ) → max_u64 < n → between 0 max_u64 (pos n) ≡ None
too_large n large = rw (leb-zero n, lt-leb n max_u64 large) refl

-- digits one after another are read as all at once
pub read_from-is : (value : ℕ) (bytes : List ℕ) → value ≤ max_u64 → read_from value bytes ≡ (if list_all is_digit bytes then between 0 max_u64 (pos (with_digits value bytes)) else None)
read_from-is value [] small = sym (fits value small)
read_from-is value (b ∷ bs) small = go (cases_Bool (is_digit b)) (read_from-is (10 * value + (b - 48)) bs)
  where
    n : ℕ
    n = 10 * value + (b - 48)

    all : Option ℕ
    all = if list_all is_digit bs then between 0 max_u64 (pos (with_digits n bs)) else None

    past : max_u64 < n → all ≡ None
    past large = elim (list_all is_digit bs) as (λ t. (if t then between 0 max_u64 (pos (with_digits n bs)) else None) ≡ None) [ true ↦ too_large (with_digits n bs) (let more = grows n bs in omega (arith, more)) | false ↦ refl ]

    digit : (is_digit b ≡ true) → (nat_le n max_u64 ≡ true) ⊎ (nat_le n max_u64 ≡ false) → (n ≤ max_u64 → read_from n bs ≡ all) → read_from value (b ∷ bs) ≡ (if list_all is_digit (b ∷ bs) then between 0 max_u64 (pos (with_digits n bs)) else None)
    digit d (inl in_range) rest = let small : n ≤ max_u64 = leb-true n max_u64 in_range in rw (d, fits n small) (rest small)
    digit d (inr out) rest = let large : max_u64 < n = leb-false n max_u64 out in rw (d, too_large n large) (sym (past large))

    go : (is_digit b ≡ true) ⊎ (is_digit b ≡ false) → (n ≤ max_u64 → read_from n bs ≡ all) → read_from value (b ∷ bs) ≡ (if list_all is_digit (b ∷ bs) then between 0 max_u64 (pos (with_digits n bs)) else None)
    go (inl d) rest = digit d (cases_Bool (nat_le n max_u64)) rest
    go (inr d) rest = rw d refl

-- as many digits as there are, of which there is at least one
pub read_from-natural : (bytes : List ℕ) → 0 < length bytes → read_from 0 bytes ≡ option_and_then (λ n. between 0 max_u64 (pos n)) (natural_of bytes)
read_from-natural [] some = absurd (omega arith)
read_from-natural (b ∷ bs) some = read_from-is 0 (b ∷ bs) (omega arith) ∙ elim (list_all is_digit (b ∷ bs)) as (λ t. (if t then between 0 max_u64 (pos (with_digits 0 (b ∷ bs))) else None) ≡ option_and_then (λ n. between 0 max_u64 (pos n)) (if t then Some (with_digits 0 (b ∷ bs)) else None)) [ true ↦ refl | false ↦ refl ]
