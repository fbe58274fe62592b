-- Lists with commas, and texts that say something of each item of a list, one behind the other.
use Rattle.std.specs.Prelude.{ℕ, ℤ, ◌≡◌, List, [], ◌∷◌, ◌++◌, codes, fold}
use Rattle.std.specs.Fmt.{signed_decimal}
use Rattle.std.specs.List.{flat_map}

-- what stands between a list and what is added to it: nothing where the list has nothing yet
abbrev pub comma_behind : (list : List ℕ) → List ℕ
comma_behind [] = []
comma_behind (byte ∷ bytes) = codes ", "

abbrev pub with_listed : (list word : List ℕ) → List ℕ
with_listed list word = list ++ (comma_behind list ++ word)

-- words with commas between them
abbrev pub listed : (words : List (List ℕ)) → List ℕ
listed words = fold with_listed [] words

-- numbers, each behind a comma
abbrev pub further_numbers : List ℤ → List ℕ
further_numbers numbers = flat_map (λ n. codes ", " ++ signed_decimal n) numbers

-- numbers in brackets, as `(0, 7)`
abbrev pub bracketed : List ℤ → List ℕ
bracketed [] = codes "()"
bracketed (first ∷ others) = codes "(" ++ (signed_decimal first ++ (further_numbers others ++ codes ")"))

-- what is told of each of these items, in their order
abbrev pub TellsEach : {A : Type 0} → (tells : A → List ℕ → Type 0) → List A → (words : List ℕ) → Type 0
TellsEach tells [] words = words ≡ []
TellsEach tells (item ∷ items) words =
    (line rest : List ℕ) × tells item line × TellsEach tells items rest × (words ≡ line ++ rest)
