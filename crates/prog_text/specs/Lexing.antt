-- How bytes are cut into tokens: at each place a space, a comment or the longest token, until the first flaw.
use Rattle.std.specs.Prelude.{ℕ, zero, suc, ◌+◌, ◌-◌, ◌*◌, ◌^◌, ◌≡◌, ◌==◌, List, [], ◌∷◌, length, take, drop, map, Bool, not, ◌&&◌, ◌||◌, if◌then◌else◌, Option, Some, None, Result, Ok, Err, nat_le, nat_lt, nat_eq, fold, unwrap_or}
use Rattle.std.specs.List.{prefix_len, starts_with}
use Rattle.prog_text.specs.declared.lexing.lex_error.Flaw.{Flaw}
use Rattle.prog_text.specs.declared.lexing.lex_error.Flaw.TheVariants.{NotAscii, UnknownByte, NumberOutOfRange, NameTooLong}
use Rattle.prog_text.specs.declared.lexing.lex_error.LexError.{LexError}
use Rattle.prog_text.specs.declared.lexing.lex_error.LexError.TheVariants as errors
use Rattle.prog_text.specs.declared.lexing.token.Token.{Token}
use Rattle.prog_text.specs.declared.lexing.token.Token.TheVariants as t
use Rattle.prog_text.specs.Limits.{name_limit}
use Rattle.prog_text.specs.Spelling.{spelling, reserved_as, signs}

-- a letter or `_`
abbrev pub is_letter : ℕ → Bool
is_letter b = (nat_le 65 b && nat_le b 90) || ((nat_le 97 b && nat_le b 122) || b == 95)

-- `0` to `9`
abbrev pub is_digit : ℕ → Bool
is_digit b = nat_le 48 b && nat_le b 57

-- what a word goes on with
abbrev pub is_word_byte : ℕ → Bool
is_word_byte b = is_letter b || is_digit b

-- a space, a tab, a line feed or a carriage return
abbrev pub is_space : ℕ → Bool
is_space b = (b == 32 || b == 9) || (b == 10 || b == 13)

-- a comment goes on with each byte below 128 but a line feed
abbrev pub is_comment_byte : ℕ → Bool
is_comment_byte b = nat_lt b 128 && not (b == 10)

-- the value of digits
abbrev pub digits_value : List ℕ → ℕ
digits_value digits = fold (λ n b. 10 * n + (b - 48)) 0 digits

-- the same, where it fits a number of either sign
abbrev pub value_within : List ℕ → Option ℕ
value_within digits = if nat_lt (digits_value digits) (2 ^ 63) then Some (digits_value digits) else None

-- a flaw, and how many bytes are left from there
abbrev pub Spot : Type 0
Spot = Flaw × ℕ

-- what stands at the front, and the bytes behind it; no token for a space or a comment
abbrev pub Lexeme : Type 0
Lexeme = Result (Option Token × List ℕ) Spot

-- a word: a reserved one, or a name
abbrev pub word_token : List ℕ → Token
word_token word = unwrap_or (reserved_as word) (t.Name word)

-- a word, of which the first byte is known: the longest run of letters, digits and `_`
unfoldable pub word_at : List ℕ → Lexeme
word_at bytes =
    let n = prefix_len is_word_byte (drop 1 bytes) + 1 in
    if nat_lt name_limit n then Err (NameTooLong, length bytes) else Ok (Some (word_token (take n bytes)), drop n bytes)

-- a number, of which the first byte is known: the longest run of digits
unfoldable pub number_at : List ℕ → Lexeme
number_at bytes =
    let n = prefix_len is_digit (drop 1 bytes) + 1 in
    if nat_lt (digits_value (take n bytes)) (2 ^ 63) then Ok (Some (t.Number (digits_value (take n bytes))), drop n bytes) else Err (NumberOutOfRange, length bytes)

-- no token begins here: the byte is not ASCII, or begins none
abbrev pub flaw_at : List ℕ → Lexeme
flaw_at [] = Err (UnknownByte, 0)
flaw_at (b ∷ rest) = Err ((if nat_lt b 128 then UnknownByte else NotAscii), length (b ∷ rest))

-- the first sign of the list with which the bytes begin
abbrev pub sign_among : List Token → List ℕ → Lexeme
sign_among [] bytes = flaw_at bytes
sign_among (u ∷ us) bytes =
    if starts_with nat_eq bytes (spelling u) then Ok (Some u, drop (length (spelling u)) bytes) else sign_among us bytes

-- a sign: the first of the list, so the longest, with which the bytes begin
unfoldable pub sign_at : List ℕ → Lexeme
sign_at bytes = sign_among signs bytes

-- what stands at the front is told by the first byte; before the end of the text nothing stands
unfoldable pub piece_at : List ℕ → Lexeme
piece_at [] = Err (UnknownByte, 0)
piece_at (b ∷ rest) =
    if is_space b then Ok (None, rest)
    else if b == 35 then Ok (None, drop (prefix_len is_comment_byte rest) rest)
    else if is_letter b then word_at (b ∷ rest)
    else if is_digit b then number_at (b ∷ rest)
    else sign_at (b ∷ rest)

-- tokens, each with how many bytes are left where it begins
abbrev pub Placed : Type 0
Placed = List (Token × ℕ)

-- the tokens alone
abbrev pub kinds : Placed → List Token
kinds placed = map (λ p. p.0) placed

-- how many bytes are left where each begins
abbrev pub lefts : Placed → List ℕ
lefts placed = map (λ p. p.1) placed

-- a piece, of which so many bytes are left, stands before the others if it is a token
abbrev pub before : Option Token → ℕ → Placed → Placed
before None left placed = placed
before (Some u) left placed = (u, left) ∷ placed

-- one step after another, up to the first flaw
infixl 10 ◌>>=◌
abbrev pub ◌>>=◌ : {A B : Type 0} → Result A Spot → (A → Result B Spot) → Result B Spot
(Ok x) >>= f = f x
(Err e) >>= f = Err e

-- the tokens of bytes, of which there are at most n
unfoldable pub tokens_from : ℕ → List ℕ → Result Placed Spot
tokens_from n [] = Ok []
tokens_from zero (b ∷ rest) = Err (UnknownByte, 0)
tokens_from (suc n) (b ∷ rest) = do
  piece ← piece_at (b ∷ rest)
  others ← tokens_from n piece.1
  Ok (before piece.0 (length (b ∷ rest)) others)

-- the tokens of a text, or its first flaw
abbrev pub tokens_of : List ℕ → Result Placed Spot
tokens_of bytes = tokens_from (length bytes) bytes

-- the definition has this flaw too; want of memory says nothing of it
abbrev pub Fails : {Y : Type 0} → LexError → Result Y Spot → Type 0
Fails errors.Memory read = Unit {0}
Fails (errors.At flaw left) read = read ≡ Err (flaw, left)

-- the code gives what the definition gives, unless memory runs out
abbrev pub Gives : {X Y : Type 0} → (X → Y) → Result X LexError → Result Y Spot → Type 0
Gives view (Ok x) read = read ≡ Ok (view x)
Gives view (Err e) read = Fails e read
