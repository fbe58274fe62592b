-- The words and signs of a text that may have any fault.
use Rattle.std.specs.Prelude.{ℕ, ◌-◌, ◌==◌, Bool, false, not, ◌&&◌, ◌||◌, List, [], ◌∷◌, drop, length, take, if◌then◌else◌}
use Rattle.std.specs.List.{before_first, prefix_len, suffix_len}
use Rattle.prog_text.specs.Lexing.{is_space, is_word_byte}
use Rattle.text_places.specs.Reading.{before_blanks, behind_blanks, last_word, stands_free}

-- two bytes are one sign: `..`, `<=`, `>=`, `==` or `!=`
abbrev pub is_double : (first second : ℕ) → Bool
is_double first second =
    (first == 46 && second == 46) || (second == 61 && ((first == 60 || first == 62) || (first == 61 || first == 33)))

-- how many bytes a sign at the front has
abbrev pub sign_len : List ℕ → ℕ
sign_len [] = 1
sign_len (first ∷ []) = 1
sign_len (first ∷ second ∷ bytes) = if is_double first second then 2 else 1

-- this many, or another number where it is none
abbrev pub some_or : (number other : ℕ) → ℕ
some_or number other = if number == 0 then other else number

abbrev pub token_len : List ℕ → ℕ
token_len bytes = some_or (prefix_len is_word_byte bytes) (sign_len bytes)

-- the word or the sign at the front
abbrev pub first_token : List ℕ → List ℕ
first_token bytes = take (token_len bytes) bytes

-- the word or the sign behind the first one
abbrev pub second_token : List ℕ → List ℕ
second_token bytes = first_token (behind_blanks (drop (token_len bytes) bytes))

abbrev pub last_token_len : List ℕ → ℕ
last_token_len bytes = some_or (suffix_len is_word_byte bytes) 1

-- the word at the end, and where there is none the last byte
abbrev pub last_token : List ℕ → List ℕ
last_token bytes = drop (length bytes - last_token_len bytes) bytes

-- no blank stands at the front, and a word does only where a word may begin
abbrev pub begins_by : (is_free : Bool) → List ℕ → Bool
begins_by is_free [] = false
begins_by is_free (byte ∷ bytes) = not (is_space byte) && (not (is_word_byte byte) || is_free)

-- a word or a sign begins here; each byte of a sign does
abbrev pub begins_token : (text : List ℕ) → (place : ℕ) → Bool
begins_token text place = begins_by (stands_free text place) (drop place text)

abbrev pub opens_key : ℕ → Bool
opens_key byte = byte == 91

abbrev pub is_before_key : ℕ → Bool
is_before_key byte = not (opens_key byte)

-- the name before the first `[`
abbrev pub table_name : List ℕ → List ℕ
table_name statement = last_word (before_blanks (before_first opens_key statement))
