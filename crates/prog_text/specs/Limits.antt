-- How much there may be: how long a name and a text are, how many brackets are open, and how many operators stand in
-- one statement.
use Rattle.std.specs.Prelude.{ℕ, suc, ◌-◌, List, [], ◌∷◌, Option, Some, None, nat_lt, ◌||◌, if◌then◌else◌, option_map}
use Rattle.prog_text.specs.declared.lexing.token.Token.{Token}
use Rattle.prog_text.specs.declared.lexing.token.Sign.TheVariants as sign
use Rattle.prog_text.specs.declared.lexing.token.Token.TheVariants as t

-- the most bytes of a text
abbrev pub text_limit : ℕ
text_limit = 1048576

-- the most brackets that may be open
abbrev pub bracket_limit : ℕ
bracket_limit = 16

-- the most operators of a statement
abbrev pub operator_limit : ℕ
operator_limit = 32

-- the most bytes of a name
abbrev pub name_limit : ℕ
name_limit = 32

-- the brackets that are open behind a token, where n are open before it; never below zero
abbrev pub brackets_after : Token → ℕ → ℕ
brackets_after (t.Sign sign.Open) n = suc n
brackets_after (t.Sign sign.OpenKey) n = suc n
brackets_after (t.Sign sign.OpenBlock) n = suc n
brackets_after (t.Sign sign.Close) n = n - 1
brackets_after (t.Sign sign.CloseKey) n = n - 1
brackets_after (t.Sign sign.CloseBlock) n = n - 1
brackets_after u n = n

-- the operators up to and with a token, since the last `;`, `{` or `}`
abbrev pub operators_after : Token → ℕ → ℕ
operators_after (t.Sign sign.Plus) n = suc n
operators_after (t.Sign sign.Minus) n = suc n
operators_after (t.Sign sign.Times) n = suc n
operators_after (t.Sign sign.Semicolon) n = 0
operators_after (t.Sign sign.OpenBlock) n = 0
operators_after (t.Sign sign.CloseBlock) n = 0
operators_after u n = n

-- how many tokens stand before the first that is too deep: it opens the 17th bracket, or is the 33rd operator
abbrev pub too_deep_from : (brackets operators : ℕ) → List Token → Option ℕ
too_deep_from brackets operators [] = None
too_deep_from brackets operators (u ∷ ts) =
    if nat_lt bracket_limit (brackets_after u brackets) || nat_lt operator_limit (operators_after u operators) then Some 0
    else option_map suc (too_deep_from (brackets_after u brackets) (operators_after u operators) ts)

abbrev pub too_deep : List Token → Option ℕ
too_deep ts = too_deep_from 0 0 ts
