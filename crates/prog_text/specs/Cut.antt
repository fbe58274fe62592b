-- A text that is cut, said without a walk: spaces, comments and tokens one after another, none of which goes on longer;
-- and a text that is so up to its first flaw.
use Rattle.std.specs.Prelude.{◌≡◌, ℕ, ◌<◌, ◌≤◌, ◌^◌, List, [], ◌∷◌, ◌++◌, length, true, false, Option, Some, None, slice_index, ⊤}
use Rattle.std.specs.List.{list_all}
use Rattle.prog_text.specs.declared.lexing.lex_error.Flaw.{Flaw}
use Rattle.prog_text.specs.declared.lexing.lex_error.Flaw.TheVariants.{NotAscii, UnknownByte, NumberOutOfRange, NameTooLong}
use Rattle.prog_text.specs.declared.lexing.token.Token.{Token}
use Rattle.prog_text.specs.declared.lexing.token.Token.TheVariants as t
use Rattle.prog_text.specs.Limits.{name_limit}
use Rattle.prog_text.specs.Spelling.{spelling, reserved_as}
use Rattle.prog_text.specs.Lexing.{is_letter, is_digit, is_word_byte, is_space, is_comment_byte, digits_value, Placed, before}

-- letters, digits and `_`, of which the first is no digit, and no reserved word
pub record IsName (word : List ℕ) : Type 0 where
  pub begins : is_letter (slice_index word 0) ≡ true
  pub goes_on : list_all is_word_byte word ≡ true
  pub free : reserved_as word ≡ None

-- digits with this value, which may begin with zeros
pub record IsNumber (word : List ℕ) (n : ℕ) : Type 0 where
  pub begins : is_digit (slice_index word 0) ≡ true
  pub goes_on : list_all is_digit word ≡ true
  pub value : digits_value word ≡ n

-- the bytes spell the token, whatever its length
abbrev pub Spells : Token → List ℕ → Type 0
Spells (t.Name x) word = (word ≡ x) × IsName word
Spells (t.Number n) word = IsNumber word n
Spells u word = word ≡ spelling u

-- a name is no longer than its limit, a number fits 63 bits
abbrev pub IsWithinLimit : Token → Type 0
IsWithinLimit (t.Name x) = length x ≤ name_limit
IsWithinLimit (t.Number n) = n < 2 ^ 63
IsWithinLimit u = ⊤

-- no longer front of these bytes, of which the word is one, spells a token
abbrev pub IsLongest : (word rest : List ℕ) → Type 0
IsLongest word rest =
    (u : Token) (b : ℕ) (more others : List ℕ) → rest ≡ b ∷ (more ++ others) → Spells u (word ++ b ∷ more) → ⊥

-- a comment ends with the text, or before a byte that goes on no comment
abbrev pub EndsComment : List ℕ → Type 0
EndsComment [] = ⊤
EndsComment (b ∷ rest) = is_comment_byte b ≡ false

-- a space, a comment or a token, that can't go on with the bytes behind it
pub data IsPiece : Option Token → (piece behind : List ℕ) → Type 0 where
  space : (b : ℕ) (behind : List ℕ)
      → is_space b ≡ true
      → IsPiece None (b ∷ []) behind
  comment : (line behind : List ℕ)
      → list_all is_comment_byte line ≡ true → EndsComment behind
      → IsPiece None (35 ∷ line) behind
  token : (u : Token) (word behind : List ℕ)
      → Spells u word → IsWithinLimit u → IsLongest word behind
      → IsPiece (Some u) word behind

-- the text is cut into these tokens
pub data IsCut : List ℕ → Placed → Type 0 where
  end : IsCut [] []
  another : (found : Option Token) (piece behind : List ℕ) (placed : Placed)
      → IsPiece found piece behind → IsCut behind placed
      → IsCut (piece ++ behind) (before found (length (piece ++ behind)) placed)

-- the front is pieces one after another, up to the rest
pub data ArePieces : (front rest : List ℕ) → Type 0 where
  no_piece : (rest : List ℕ) → ArePieces [] rest
  one_more : (found : Option Token) (piece front rest : List ℕ)
      → IsPiece found piece (front ++ rest) → ArePieces front rest
      → ArePieces (piece ++ front) rest

-- what is wrong where these bytes begin: a byte of 128 or more; another byte with which no space, comment or token
-- begins; or a token, as long as it can be, that is past its limit
pub data HasFlaw : Flaw → List ℕ → Type 0 where
  not_ascii : (b : ℕ) (rest : List ℕ)
      → 128 ≤ b
      → HasFlaw NotAscii (b ∷ rest)
  unknown : (b : ℕ) (rest : List ℕ)
      → b < 128 → is_space b ≡ false → (b ≡ 35 → ⊥)
      → ((u : Token) (word behind : List ℕ) → Spells u word → b ∷ rest ≡ word ++ behind → ⊥)
      → HasFlaw UnknownByte (b ∷ rest)
  too_large : (n : ℕ) (word behind : List ℕ)
      → IsNumber word n → 2 ^ 63 ≤ n → IsLongest word behind
      → HasFlaw NumberOutOfRange (word ++ behind)
  too_long : (word behind : List ℕ)
      → IsName word → name_limit < length word → IsLongest word behind
      → HasFlaw NameTooLong (word ++ behind)

-- the text is pieces up to this place, where it has this flaw; so no flaw stands before it
pub record IsFirstFlaw (bytes : List ℕ) (flaw : Flaw) (place : ℕ) : Type 0 where
  pub front : List ℕ
  pub rest : List ℕ
  pub parts : bytes ≡ front ++ rest
  pub pieces : ArePieces front rest
  pub flawed : HasFlaw flaw rest
  pub at_place : length front ≡ place
