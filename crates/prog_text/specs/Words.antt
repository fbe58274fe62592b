-- Which words are reserved, and what each of them begins.
use Rattle.std.specs.Prelude.{ℕ, Bool, List, Option, Some, None}
use Rattle.std.specs.Option.{is_some, option_and_then}
use Rattle.prog_text.specs.Spelling.{reserved_as}
use Rattle.prog_text.specs.declared.lexing.token.Token.{Token}
use Rattle.prog_text.specs.declared.lexing.token.Sign.TheVariants as sign
use Rattle.prog_text.specs.declared.lexing.token.Token.TheVariants as t
use Rattle.prog_text.specs.declared.lexing.words.Beginning.{Beginning}
use Rattle.prog_text.specs.declared.lexing.words.Beginning.TheVariants.{Table, Program, Statement}

-- a word that the language keeps for itself
abbrev pub is_reserved : (word : List ℕ) → Bool
is_reserved word = is_some (reserved_as word)

-- what begins with a token
abbrev pub begun_by : Token → Option Beginning
begun_by (t.Sign sign.Table) = Some Table
begun_by (t.Sign sign.Program) = Some Program
begun_by (t.Sign sign.Let) = Some Statement
begun_by (t.Sign sign.Lacks) = Some Statement
begun_by (t.Sign sign.Put) = Some Statement
begun_by (t.Sign sign.Insert) = Some Statement
begun_by (t.Sign sign.Delete) = Some Statement
begun_by (t.Sign sign.Keep) = Some Statement
begun_by (t.Sign sign.If) = Some Statement
begun_by (t.Sign sign.Each) = Some Statement
begun_by (t.Sign sign.Reply) = Some Statement
begun_by (t.Sign sign.Abort) = Some Statement
begun_by other = None

-- what begins with some token, of which there may be none
abbrev pub begun : Option Token → Option Beginning
begun token = option_and_then begun_by token

-- what begins with a word
abbrev pub beginning_of : (word : List ℕ) → Option Beginning
beginning_of word = begun (reserved_as word)
