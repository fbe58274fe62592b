-- How each token is spelled.
use Rattle.std.specs.Prelude.{ℕ, List, [], ◌∷◌, map, Option, bytes_eq, find, codes}
use Rattle.std.specs.Fmt.{decimal}
use Rattle.prog_text.specs.declared.lexing.token.Token.{Token}
use Rattle.prog_text.specs.declared.lexing.token.Sign.TheVariants as sign
use Rattle.prog_text.specs.declared.lexing.token.Token.TheVariants as t

-- the bytes of a token as the canonical text has them; a number may be read with zeros before it
abbrev pub spelling : Token → List ℕ
spelling (t.Name x) = x
spelling (t.Number n) = decimal n
spelling (t.Sign sign.Table) = codes "table"
spelling (t.Sign sign.Grow) = codes "grow"
spelling (t.Sign sign.Program) = codes "program"
spelling (t.Sign sign.Let) = codes "let"
spelling (t.Sign sign.Get) = codes "get"
spelling (t.Sign sign.Need) = codes "need"
spelling (t.Sign sign.Count) = codes "count"
spelling (t.Sign sign.Sum) = codes "sum"
spelling (t.Sign sign.Lacks) = codes "lacks"
spelling (t.Sign sign.Put) = codes "put"
spelling (t.Sign sign.Insert) = codes "insert"
spelling (t.Sign sign.Delete) = codes "delete"
spelling (t.Sign sign.Keep) = codes "keep"
spelling (t.Sign sign.If) = codes "if"
spelling (t.Sign sign.Else) = codes "else"
spelling (t.Sign sign.Reply) = codes "reply"
spelling (t.Sign sign.Abort) = codes "abort"
spelling (t.Sign sign.Or) = codes "or"
spelling (t.Sign sign.And) = codes "and"
spelling (t.Sign sign.Not) = codes "not"
spelling (t.Sign sign.Least) = codes "least"
spelling (t.Sign sign.Greatest) = codes "greatest"
spelling (t.Sign sign.Each) = codes "each"
spelling (t.Sign sign.In) = codes "in"
spelling (t.Sign sign.Open) = codes "("
spelling (t.Sign sign.Close) = codes ")"
spelling (t.Sign sign.OpenKey) = codes "["
spelling (t.Sign sign.CloseKey) = codes "]"
spelling (t.Sign sign.OpenBlock) = codes "{"
spelling (t.Sign sign.CloseBlock) = codes "}"
spelling (t.Sign sign.Comma) = codes ","
spelling (t.Sign sign.Semicolon) = codes ";"
spelling (t.Sign sign.Equals) = codes "="
spelling (t.Sign sign.Plus) = codes "+"
spelling (t.Sign sign.Minus) = codes "-"
spelling (t.Sign sign.Times) = codes "*"
spelling (t.Sign sign.Dots) = codes ".."
spelling (t.Sign sign.Less) = codes "<"
spelling (t.Sign sign.LessEqual) = codes "<="
spelling (t.Sign sign.Greater) = codes ">"
spelling (t.Sign sign.GreaterEqual) = codes ">="
spelling (t.Sign sign.EqualEqual) = codes "=="
spelling (t.Sign sign.NotEqual) = codes "!="

-- the words that are no names
abbrev pub reserved_words : List Token
reserved_words =
    map t.Sign (
    sign.Table ∷ sign.Grow ∷ sign.Program ∷ sign.Let ∷ sign.Get ∷ sign.Need ∷ sign.Count ∷ sign.Sum ∷
    sign.Lacks ∷ sign.Put ∷ sign.Insert ∷ sign.Delete ∷ sign.Keep ∷ sign.If ∷ sign.Else ∷ sign.Each ∷ sign.Reply ∷ sign.Abort ∷
    sign.Or ∷ sign.And ∷ sign.Not ∷ sign.Least ∷ sign.Greatest ∷ sign.In ∷ [])

-- the reserved word that a word is
abbrev pub reserved_as : (word : List ℕ) → Option Token
reserved_as word = find (λ u. bytes_eq word (spelling u)) reserved_words

-- the signs, those of two bytes first
abbrev pub signs : List Token
signs =
    t.Sign sign.Dots ∷ t.Sign sign.LessEqual ∷ t.Sign sign.GreaterEqual ∷ t.Sign sign.EqualEqual ∷ t.Sign sign.NotEqual ∷
    t.Sign sign.Open ∷ t.Sign sign.Close ∷ t.Sign sign.OpenKey ∷ t.Sign sign.CloseKey ∷ t.Sign sign.OpenBlock ∷ t.Sign sign.CloseBlock ∷ t.Sign sign.Comma ∷ t.Sign sign.Semicolon ∷ t.Sign sign.Equals ∷
    t.Sign sign.Plus ∷ t.Sign sign.Minus ∷ t.Sign sign.Times ∷ t.Sign sign.Less ∷ t.Sign sign.Greater ∷ []
