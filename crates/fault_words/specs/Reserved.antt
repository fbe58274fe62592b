-- Which words of a set's text are names, and whether words have all signs.
use Rattle.std.specs.Prelude.{ℕ, Bool, false, not, ◌&&◌, List, [], ◌∷◌, bytes_eq}
use Rattle.std.specs.List.{list_all, list_any}
use Rattle.prog_text.specs.Lexing.{is_letter}
use Rattle.prog_text.specs.Spelling.{signs, spelling}
use Rattle.prog_text.specs.Words.{is_reserved}

-- a word or a sign that is a name
abbrev pub is_name : List ℕ → Bool
is_name [] = false
is_name (byte ∷ bytes) = is_letter byte && not (is_reserved (byte ∷ bytes))

-- each sign of the language is among these words
abbrev pub have_each_sign : (words : List (List ℕ)) → Bool
have_each_sign words = list_all (λ sign. list_any (bytes_eq (spelling sign)) words) signs
