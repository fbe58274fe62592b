-- A line feed behind the text of tokens changes nothing of what is read.
use Rattle.std.proofs.Common.{◌≡◌, Bool, true, false, cond, ◌&&◌, ℕ, List, [], ◌∷◌, ◌++◌, refl, sym, ap, ap₂, ◌∙◌, append_assoc, append-nil}
use Rattle.json.specs.Token.{Token, begin_object, end_object, begin_array, end_array, key, string, number, boolean, null, bad}
use Rattle.json.specs.Word.{ends_word, word}
use Rattle.json.specs.Lex.{Lexeme, token, comma, colon, string_token, lex, between, fresh, punctuate, tokens}
use Rattle.json.specs.Print.{escape, quoted, token_text, begins, ends, separator, print_from, print, IsPrintable, ArePrintable}
use Rattle.json.proofs.Printed.Strings.{content-escape, lex-escape}
use Rattle.json.proofs.Printed.Numbers.{lex-number, in_word-ended}

-- ---- what the lexer makes of tokens, whatever ends the last word

abbrev token_lexemes : Token → List Lexeme
token_lexemes begin_object = token begin_object ∷ []
token_lexemes end_object = token end_object ∷ []
token_lexemes begin_array = token begin_array ∷ []
token_lexemes end_array = token end_array ∷ []
token_lexemes (key s) = token (string s) ∷ colon ∷ []
token_lexemes (string s) = token (string s) ∷ []
token_lexemes (number s) = token (number s) ∷ []
token_lexemes (boolean b) = token (boolean b) ∷ []
token_lexemes null = token null ∷ []
token_lexemes bad = []

abbrev lexemes : Bool → List Token → List Lexeme
lexemes c [] = []
lexemes c (t ∷ ts) = cond (c && begins t) (comma ∷ []) [] ++ (token_lexemes t ++ lexemes (ends t) ts)

-- after a value stands a comma, a closing bracket or what ends the text
value_ended : (ts : List Token) (tail : List ℕ) → ends_word tail ≡ true → ends_word (print_from true ts ++ tail) ≡ true
unfolding print_from
value_ended [] tail h = h
value_ended (begin_object ∷ ts) tail h = refl
value_ended (end_object ∷ ts) tail h = refl
value_ended (begin_array ∷ ts) tail h = refl
value_ended (end_array ∷ ts) tail h = refl
value_ended (key s ∷ ts) tail h = refl
value_ended (string s ∷ ts) tail h = refl
value_ended (number s ∷ ts) tail h = refl
value_ended (boolean b ∷ ts) tail h = refl
value_ended (null ∷ ts) tail h = refl
value_ended (bad ∷ ts) tail h = refl

lex_quoted : (s rest : List ℕ) → lex between (quoted s ++ rest) ≡ token (string s) ∷ lex between rest
unfolding lex
lex_quoted s rest =
    ap (λ l. lex between (34 ∷ l)) (append_assoc (escape s) (34 ∷ []) rest) ∙ ap₂ (λ o l. token (string_token o) ∷ l) (content-escape s rest) (lex-escape s rest)

lex_token : (t : Token) (rest : List ℕ) → IsPrintable t → (ends t ≡ true → ends_word rest ≡ true) → lex between (token_text t ++ rest) ≡ token_lexemes t ++ lex between rest
unfolding lex word
lex_token begin_object rest h ended = refl
lex_token end_object rest h ended = refl
lex_token begin_array rest h ended = refl
lex_token end_array rest h ended = refl
lex_token (key s) rest h ended = ap (lex between) (append_assoc (quoted s) (58 ∷ []) rest) ∙ lex_quoted s (58 ∷ rest)
lex_token (string s) rest h ended = lex_quoted s rest
lex_token (number s) rest h ended = lex-number s rest h (ended refl)
lex_token (boolean true) rest h ended = ap₂ (λ b l. token (cond b (boolean true) bad) ∷ l) (ended refl) (in_word-ended rest (ended refl))
lex_token (boolean false) rest h ended = ap₂ (λ b l. token (cond b (boolean false) bad) ∷ l) (ended refl) (in_word-ended rest (ended refl))
lex_token null rest h ended = ap₂ (λ b l. token (cond b null bad) ∷ l) (ended refl) (in_word-ended rest (ended refl))
lex_token bad rest h ended = absurd h

lex_separator : (b : Bool) (rest : List ℕ) → lex between (cond b (44 ∷ []) [] ++ rest) ≡ cond b (comma ∷ []) [] ++ lex between rest
unfolding lex
lex_separator true rest = refl
lex_separator false rest = refl

lex_tokens : (c : Bool) (ts : List Token) (tail : List ℕ) → ends_word tail ≡ true → ArePrintable ts → lex between (print_from c ts ++ tail) ≡ lexemes c ts ++ lex between tail
unfolding print_from ArePrintable
lex_tokens c [] tail e h = refl
lex_tokens c (t ∷ ts) tail e h =
    ap (lex between) (append_assoc (separator c t) (token_text t ++ print_from (ends t) ts) tail ∙ ap (λ l. separator c t ++ l) (append_assoc (token_text t) (print_from (ends t) ts) tail))
    ∙ lex_separator (c && begins t) (token_text t ++ (print_from (ends t) ts ++ tail))
    ∙ ap (λ l. cond (c && begins t) (comma ∷ []) [] ++ l)
    (lex_token t (print_from (ends t) ts ++ tail) h.0 (λ is. ap (λ b. ends_word (print_from b ts ++ tail)) is ∙ value_ended ts tail e)
    ∙ ap (λ l. token_lexemes t ++ l) (lex_tokens (ends t) ts tail e h.1) ∙ sym (append_assoc (token_lexemes t) (lexemes (ends t) ts) (lex between tail)))
    ∙ sym (append_assoc (cond (c && begins t) (comma ∷ []) []) (token_lexemes t ++ lexemes (ends t) ts) (lex between tail))

-- ---- the line feed

lex_line : (ts : List Token) → ArePrintable ts → lex between (print ts ++ 10 ∷ []) ≡ lex between (print ts)
unfolding lex
lex_line ts h = lex_tokens false ts (10 ∷ []) refl h ∙ sym (lex_tokens false ts [] refl h) ∙ ap (lex between) (append-nil (print ts))

pub tokens_line : (ts : List Token) → ArePrintable ts → tokens (print ts ++ 10 ∷ []) ≡ tokens (print ts)
tokens_line ts h = ap (punctuate fresh) (lex_line ts h)
