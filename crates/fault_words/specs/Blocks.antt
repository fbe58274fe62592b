-- Which block of a text is left open, and how people are told.
use Rattle.std.specs.Prelude.{ℕ, zero, suc, ◌==◌, ◌&&◌, Bool, false, List, [], ◌∷◌, ◌++◌, Option, Some, None, is_some, unwrap_or, bytes_eq, codes, count_by, drop, find, length, take, if◌then◌else◌}
use Rattle.std.specs.Fmt.{decimal}
use Rattle.text_places.specs.Reading.{short_word, stands_free, without_comments}
use Rattle.text_places.specs.Places.{line_number}

-- the last place before a bound that passes a test
abbrev pub last_before : (test : ℕ → Bool) → (bound : ℕ) → Option ℕ
last_before test zero = None
last_before test (suc place) = if test place then Some place else last_before test place

abbrev pub opens : (byte : ℕ) → Bool
opens byte = byte == 123

abbrev pub closes : (byte : ℕ) → Bool
closes byte = byte == 125

-- a block begins with the first byte, and as many blocks begin behind it as end
abbrev pub is_left_open : List ℕ → Bool
is_left_open [] = false
is_left_open (byte ∷ bytes) = opens byte && count_by opens bytes == count_by closes bytes

-- where the last block begins that a text leaves open
abbrev pub open_block : (text : List ℕ) → Option ℕ
open_block text = last_before (λ place. is_left_open (drop place text)) (length text)

-- the words of which one stands before each block
abbrev pub heads : List (List ℕ)
heads = codes "program" ∷ codes "if" ∷ codes "else" ∷ codes "each" ∷ []

-- which of them a word is
abbrev pub head_of : (word : List ℕ) → Option (List ℕ)
head_of word = find (bytes_eq word) heads

-- such a word begins here
abbrev pub begins_head : (text : List ℕ) → (place : ℕ) → Bool
begins_head text place = is_some (head_of (short_word (drop place text))) && stands_free text place

-- where the last such word before a block begins
abbrev pub head_before : (text : List ℕ) → (block : Option ℕ) → Option ℕ
head_before text None = None
head_before text (Some block) = last_before (begins_head text) block

-- where the head of the last block begins that is open before a place, not counting what stands in comments
abbrev pub open_head : (text : List ℕ) → (place : ℕ) → Option ℕ
open_head text place =
    head_before (take place (without_comments text)) (open_block (take place (without_comments text)))

-- the block of a head, with the line of the head
abbrev pub open_text : (text : List ℕ) → (head : ℕ) → List ℕ
open_text text head =
    codes "the block of `" ++ (unwrap_or (head_of (short_word (drop head (without_comments text)))) []
    ++ (codes "` in line " ++ (decimal (line_number text head) ++ codes " is still open: a `}` is missing")))
