-- The table of reserved words, beside their definition.
use Rattle.std.proofs.Common.{◌≡◌, ◌∙◌, ℕ, List, [], ◌∷◌, Bool, true, false, Option, Some, None, find, map, option_map, unwrap_or, bytes_eq, refl, ap, if◌then◌else◌}
use Rattle.prog_text.specs.declared.lexing.token.Sign.{Sign}
use Rattle.prog_text.specs.declared.lexing.token.Token.{Token}
use Rattle.prog_text.specs.declared.lexing.token.Token.TheVariants as t
use Rattle.prog_text.specs.declared.lexing.words.TheConstants.{RESERVED}
use Rattle.prog_text.specs.Spelling.{spelling, reserved_as}
use Rattle.prog_text.specs.Lexing.{word_token}
use Rattle.prog_text.specs.Words.{begun, beginning_of, is_reserved}
use Rattle.std.specs.Map.{lookup}
use Rattle.std.specs.Option.{is_some}

-- this sign, or what is found behind it
first_or : (b : Bool) (u : Sign) (others : Option Sign) (found : Option Token) → option_map t.Sign others ≡ found → option_map t.Sign (if b then Some u else others) ≡ (if b then Some (t.Sign u) else found)
first_or true u others found h = refl
first_or false u others found h = h

first_sign : (word : List ℕ) (signs : List Sign) → option_map t.Sign (lookup (bytes_eq word) (map (λ u. (spelling (t.Sign u), u)) signs)) ≡ find (λ u. bytes_eq word (spelling u)) (map t.Sign signs)
first_sign word [] = refl
first_sign word (u ∷ signs) = first_or (bytes_eq word (spelling (t.Sign u))) u _ _ (first_sign word signs)

reserved_sign : (word : List ℕ) → option_map t.Sign (lookup (bytes_eq word) (map (λ e. (e.0.now, e.1)) RESERVED)) ≡ reserved_as word
reserved_sign word = first_sign word (map (λ e. e.1) RESERVED)

-- a word is the sign that the table has for it, or else a name
pub token_of_word : (word : List ℕ) (found : Option Sign) → found ≡ lookup (bytes_eq word) (map (λ e. (e.0.now, e.1)) RESERVED) → unwrap_or (option_map t.Sign found) (t.Name word) ≡ word_token word
token_of_word word found is = ap (λ o. unwrap_or (option_map t.Sign o) (t.Name word)) is ∙ ap (λ o. unwrap_or o (t.Name word)) (reserved_sign word)

-- a word is reserved where the table has a sign for it
pub reserved_by_sign : (word : List ℕ) (found : Option Sign) → found ≡ lookup (bytes_eq word) (map (λ e. (e.0.now, e.1)) RESERVED) → is_some found ≡ is_reserved word
reserved_by_sign word found is = some_same found ∙ ap is_some (ap (option_map t.Sign) is ∙ reserved_sign word)
  where
    some_same : (o : Option Sign) → is_some o ≡ is_some (option_map t.Sign o)
    some_same None = refl
    some_same (Some u) = refl

-- a word begins what the sign begins that the table has for it
pub begun_by_sign : (word : List ℕ) (found : Option Sign) → found ≡ lookup (bytes_eq word) (map (λ e. (e.0.now, e.1)) RESERVED)
    → begun (option_map t.Sign found) ≡ beginning_of word
begun_by_sign word found is = ap begun (ap (option_map t.Sign) is ∙ reserved_sign word)
