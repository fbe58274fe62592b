-- How a word of the input is shown.
use Rattle.std.specs.Prelude.{ℕ, ◌≡◌, ◌<◌, ◌≤◌, List, map, take}
use Rattle.std.specs.Str.{IsCharBoundary}
use Rattle.text_places.specs.Quotes.{visible}
use Rattle.run_words.specs.Limits.{most_word}

-- no character ends behind `end` and within the bytes that are shown
abbrev pub IsLastEnd : (word : List ℕ) → (end : ℕ) → Type 0
IsLastEnd word end = (place : ℕ) → end < place → place ≤ most_word → ¬ IsCharBoundary word place

-- the text is the first part of the word, of so many bytes at most and of whole characters, as a terminal may show it
pub record IsShownWord (word text : List ℕ) : Type 0 where
  pub end : ℕ
  pub within : end ≤ most_word
  pub whole : IsCharBoundary word end
  pub last : IsLastEnd word end
  pub is : text ≡ map visible (take end word)
