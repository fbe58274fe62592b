-- The words, blanks and comments of a text that may have any fault.
use Rattle.std.specs.Prelude.{ℕ, ◌-◌, ◌==◌, Bool, false, not, ◌&&◌, ◌||◌, List, [], ◌∷◌, drop, length, take, if◌then◌else◌}
use Rattle.std.specs.List.{prefix_len, suffix_len}
use Rattle.prog_text.specs.Lexing.{is_space, is_word_byte}
use Rattle.text_places.specs.Limits.{short_len}
use Rattle.text_places.specs.Places.{is_feed}

-- a byte belongs to a comment: one is open, or the byte begins one, and no line feed ends it
abbrev pub is_in_comment : (is_open : Bool) → ℕ → Bool
is_in_comment is_open byte = not (is_feed byte) && (is_open || byte == 35)

-- the bytes with a space for each one of a comment
abbrev pub blank_from : (is_open : Bool) → List ℕ → List ℕ
blank_from is_open [] = []
blank_from is_open (byte ∷ bytes) =
    (if is_in_comment is_open byte then 32 else byte) ∷ blank_from (is_in_comment is_open byte) bytes

abbrev pub without_comments : List ℕ → List ℕ
without_comments text = blank_from false text

abbrev pub behind_blanks : List ℕ → List ℕ
behind_blanks bytes = drop (prefix_len is_space bytes) bytes

abbrev pub before_blanks : List ℕ → List ℕ
before_blanks bytes = take (length bytes - suffix_len is_space bytes) bytes

-- the word at the front
abbrev pub first_word : List ℕ → List ℕ
first_word bytes = take (prefix_len is_word_byte bytes) bytes

-- the word at the front, of which so many bytes tell whether it is a short one
abbrev pub short_word : List ℕ → List ℕ
short_word bytes = first_word (take short_len bytes)

-- the word at the end
abbrev pub last_word : List ℕ → List ℕ
last_word bytes = drop (length bytes - suffix_len is_word_byte bytes) bytes

-- the bytes behind the word at the front and the blanks that follow it
abbrev pub behind_word : List ℕ → List ℕ
behind_word bytes = behind_blanks (drop (prefix_len is_word_byte bytes) bytes)

-- no word goes on at the place
abbrev pub stands_free : (text : List ℕ) → (place : ℕ) → Bool
stands_free text place = suffix_len is_word_byte (take place text) == 0

-- a word begins here
abbrev pub begins_word : (text : List ℕ) → (place : ℕ) → Bool
begins_word text place = stands_free text place && not (prefix_len is_word_byte (drop place text) == 0)

-- where the last word or sign before a place ends, in a text without comments: behind it stand only blanks
abbrev pub last_end : (plain : List ℕ) → (place : ℕ) → ℕ
last_end plain place = length (take place plain) - suffix_len is_space (take place plain)

-- the same in any text: behind it stand only blanks and comments
abbrev pub end_before : (text : List ℕ) → (place : ℕ) → ℕ
end_before text place = last_end (without_comments text) place
