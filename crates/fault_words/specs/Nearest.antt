-- The name that was meant by a word, and how people are told.
use Rattle.std.specs.Prelude.{ℕ, ◌≡◌, ◌<◌, ◌≤◌, ◌⊎◌, All, List, [], ◌∷◌, ◌++◌, Option, Some, None, codes, length, map, min, nat_eq}
use Rattle.std.specs.Str.{chars}
use Rattle.strsim.specs.Edits.{levenshtein_row}
use Rattle.text_places.specs.Listing.{listed}

-- how many characters have to be put in, taken out or changed to make a name of a word
abbrev pub edits : (word name : List ℕ) → ℕ
edits word name = levenshtein_row nat_eq (chars word) (chars name) (length (chars name))

-- a name that was meant takes fewer edits than this
abbrev pub too_many_edits : (word : List ℕ) → ℕ
too_many_edits word = min 3 (length word)

-- the most bytes of a word that may be a name with a few edits
abbrev pub most_meant : ℕ
most_meant = 136

-- the first of the names that take the fewest edits of a word, which are few
pub record IsNearest (word : List ℕ) (names : List (List ℕ)) (near : List ℕ) : Type 0 where
  pub before : List (List ℕ)
  pub behind : List (List ℕ)
  pub among : names ≡ before ++ (near ∷ behind)
  pub few : edits word near < too_many_edits word
  pub first : All (λ other. edits word near < edits word other) before
  pub least : All (λ other. edits word near ≤ edits word other) behind

-- a word means the nearest name, or none where it is too long or each name takes too many edits
abbrev pub IsMeant : (word : List ℕ) → (names : List (List ℕ)) → Option (List ℕ) → Type 0
IsMeant word names None = (most_meant < length word) ⊎ All (λ other. too_many_edits word ≤ edits word other) names
IsMeant word names (Some near) = (length word ≤ most_meant) × IsNearest word names near

abbrev pub quoted : (name : List ℕ) → List ℕ
quoted name = codes "`" ++ (name ++ codes "`")

-- all of the names, between backquotes
abbrev pub all_text : (names : List (List ℕ)) → List ℕ
all_text [] = codes "there is none"
all_text (first ∷ others) = codes "known are " ++ listed (map quoted (first ∷ others))

abbrev pub known_text : (names : List (List ℕ)) → (meant : Option (List ℕ)) → List ℕ
known_text names None = all_text names
known_text names (Some near) = codes "the nearest name is `" ++ (near ++ codes "`")

-- the text tells the name that a word means, or all names
abbrev pub TellsKnown : (word : List ℕ) → (names : List (List ℕ)) → (text : List ℕ) → Type 0
TellsKnown word names text = (meant : Option (List ℕ)) × IsMeant word names meant × (text ≡ known_text names meant)
