-- With which tokens the tables, programs and statements of a set begin, and which words are looked for in its text.
use Rattle.std.specs.Prelude.{Bool, false, ◌||◌, List, [], ◌∷◌, ◌++◌, map}
use Rattle.std.specs.List.{filter, flat_map}
use Rattle.prog_tree.specs.Syntax.{StatementTree, Bind, Get, Need, Count, Sum, Lacks, Put, Insert, Delete, Keep, Reply, Abort, BlockTree, BlockEnd, Then, Branch, Each, ProgramTree, DraftTree}
use Rattle.text_places.specs.Landmarks.{is_sign_of}
use Rattle.text_places.specs.declared.landmark.Landmark.{Landmark}
use Rattle.text_places.specs.declared.landmark.Landmark.TheVariants as l
use Rattle.prog_text.specs.Spelling.{spelling}
use Rattle.prog_text.specs.declared.lexing.token.Token.{Token}
use Rattle.prog_text.specs.declared.lexing.token.Sign.TheVariants as sign
use Rattle.prog_text.specs.declared.lexing.token.Token.TheVariants as t

-- the token is a word that is looked for in a text as the first of one of these; a name and a number are none, however
-- they are spelled
abbrev pub is_first : Landmark → Token → Bool
is_first kind (t.Sign u) = is_sign_of kind (spelling (t.Sign u))
is_first kind (t.Name x) = false
is_first kind (t.Number n) = false

-- the token is looked for as the first of a table, a program or a statement
abbrev pub is_beginning : Token → Bool
is_beginning u = is_first l.Table u || (is_first l.Program u || is_first l.Statement u)

-- those of the tokens that are such words
abbrev pub beginnings_among : List Token → List Token
beginnings_among ts = filter is_beginning ts

-- the first token of a statement without blocks
abbrev pub first_of : StatementTree → Token
first_of (Bind x e) = t.Sign sign.Let
first_of (Get x table key e) = t.Sign sign.Let
first_of (Need x table key) = t.Sign sign.Let
first_of (Count x table range) = t.Sign sign.Let
first_of (Sum x table range) = t.Sign sign.Let
first_of (Lacks table key) = t.Sign sign.Lacks
first_of (Put table key e) = t.Sign sign.Put
first_of (Insert table key e) = t.Sign sign.Insert
first_of (Delete table key) = t.Sign sign.Delete
first_of (Keep table key) = t.Sign sign.Keep
first_of (Reply e) = t.Sign sign.Reply
first_of Abort = t.Sign sign.Abort

-- the first token of each statement, by their numbers: those of a branch stand behind it, its first block's first, and
-- those of an `each` behind it
abbrev pub firsts_of : BlockTree → List Token
firsts_of BlockEnd = []
firsts_of (Then s rest) = first_of s ∷ firsts_of rest
firsts_of (Branch test a b rest) = t.Sign sign.If ∷ (firsts_of a ++ (firsts_of b ++ firsts_of rest))
firsts_of (Each l body rest) = t.Sign sign.Each ∷ (firsts_of body ++ firsts_of rest)

-- `program`, and the first token of each of its statements
abbrev pub program_beginnings : ProgramTree → List Token
program_beginnings p = t.Sign sign.Program ∷ firsts_of p.body

-- a `table` for each table, and then the beginnings of each program
abbrev pub draft_beginnings : DraftTree → List Token
draft_beginnings d = map (λ table. t.Sign sign.Table) d.tables ++ flat_map program_beginnings d.programs
