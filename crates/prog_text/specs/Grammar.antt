-- The grammar. Each family below is one line of it, and each constructor one way to read that line:
-- a value of `IsExpr ts e` shows how the tokens ts spell the expression e.
use Rattle.std.specs.Prelude.{ℕ, pos, List, [], ◌∷◌, ◌++◌, true, false}
use Rattle.std.proofs.Common.{neg_ℤ}
use Rattle.prog_tree.specs.Number.{least as least_number, greatest as greatest_number}
use Rattle.prog_tree.specs.Syntax.{Name, ExprTree, Literal, Named, Plus, Minus, Times, RelationSign, Less, LessEqual, Greater, GreaterEqual, Equal, NotEqual, ComparisonTree, TestTree, KeyTree, One, Two, RangeTree, OneRange, TwoRange, StatementTree, Bind, Get, Need, Count, Sum, Lacks, Put, Insert, Delete, Keep, Reply, Abort, BlockTree, BlockEnd, Then, Branch, Each, ProgramTree, DraftTree}
use Rattle.prog_tree.specs.declared.table.TableDecl.{TableDecl}
use Rattle.prog_tree.specs.declared.table.Arity.{Arity}
use Rattle.prog_tree.specs.declared.table.Arity.TheVariants as arity
use Rattle.prog_text.specs.declared.lexing.token.Token.{Token}
use Rattle.prog_text.specs.declared.lexing.token.Sign.TheVariants as sign
use Rattle.prog_text.specs.declared.lexing.token.Token.TheVariants as t

-- ---- lists

-- { p }: such phrases one after another, or none
pub data Many {A : Type 0} (P : List Token → A → Type 0) : List Token → List A → Type 0 where
  none : Many P [] []
  more : (ts us : List Token) (x : A) (xs : List A)
      → P ts x → Many P us xs
      → Many P (ts ++ us) (x ∷ xs)

-- u p: the token u and such a phrase
pub data Led {A : Type 0} (u : Token) (P : List Token → A → Type 0) : List Token → A → Type 0 where
  led : (ts : List Token) (x : A)
      → P ts x
      → Led u P (u ∷ ts) x

-- p { u p }: such phrases with the token u between them
pub data Separated {A : Type 0} (u : Token) (P : List Token → A → Type 0) : List Token → List A → Type 0 where
  separated : (ts us : List Token) (x : A) (xs : List A)
      → P ts x → Many (Led u P) us xs
      → Separated u P (ts ++ us) (x ∷ xs)

-- ---- expressions

mutual
  -- factor = NUMBER | "-" NUMBER | "least" | "greatest" | NAME | "(" expr ")"
  pub data IsFactor : List Token → ExprTree → Type 0 where
    number : (n : ℕ) → IsFactor (t.Number n ∷ []) (Literal (pos n))
    negative : (n : ℕ) → IsFactor (t.Sign sign.Minus ∷ t.Number n ∷ []) (Literal (neg_ℤ (pos n)))
    least : IsFactor (t.Sign sign.Least ∷ []) (Literal least_number)
    greatest : IsFactor (t.Sign sign.Greatest ∷ []) (Literal greatest_number)
    name : (x : Name) → IsFactor (t.Name x ∷ []) (Named x)
    bracketed : (ts : List Token) (e : ExprTree)
        → IsExpr ts e
        → IsFactor (t.Sign sign.Open ∷ (ts ++ t.Sign sign.Close ∷ [])) e

  -- prod = factor { "*" factor }, grouped to the left
  pub data IsProduct : List Token → ExprTree → Type 0 where
    factor : (ts : List Token) (e : ExprTree)
        → IsFactor ts e
        → IsProduct ts e
    times : (ts us : List Token) (a b : ExprTree)
        → IsProduct ts a → IsFactor us b
        → IsProduct (ts ++ t.Sign sign.Times ∷ us) (Times a b)

  -- expr = prod { ( "+" | "-" ) prod }, grouped to the left
  pub data IsExpr : List Token → ExprTree → Type 0 where
    product : (ts : List Token) (e : ExprTree)
        → IsProduct ts e
        → IsExpr ts e
    plus : (ts us : List Token) (a b : ExprTree)
        → IsExpr ts a → IsProduct us b
        → IsExpr (ts ++ t.Sign sign.Plus ∷ us) (Plus a b)
    minus : (ts us : List Token) (a b : ExprTree)
        → IsExpr ts a → IsProduct us b
        → IsExpr (ts ++ t.Sign sign.Minus ∷ us) (Minus a b)

-- ---- tests

-- "<" | "<=" | ">" | ">=" | "==" | "!="
pub data IsRelation : Token → RelationSign → Type 0 where
  less : IsRelation (t.Sign sign.Less) Less
  less_equal : IsRelation (t.Sign sign.LessEqual) LessEqual
  greater : IsRelation (t.Sign sign.Greater) Greater
  greater_equal : IsRelation (t.Sign sign.GreaterEqual) GreaterEqual
  equal : IsRelation (t.Sign sign.EqualEqual) Equal
  not_equal : IsRelation (t.Sign sign.NotEqual) NotEqual

-- comp = [ "not" ] expr ( "<" | "<=" | ">" | ">=" | "==" | "!=" ) expr
pub data IsComparison : List Token → ComparisonTree → Type 0 where
  plain : (ts us : List Token) (u : Token) (a b : ExprTree) (r : RelationSign)
      → IsExpr ts a → IsRelation u r → IsExpr us b
      → IsComparison (ts ++ u ∷ us) (record { negated = false; left = a; relation = r; right = b })
  negated : (ts us : List Token) (u : Token) (a b : ExprTree) (r : RelationSign)
      → IsExpr ts a → IsRelation u r → IsExpr us b
      → IsComparison (t.Sign sign.Not ∷ (ts ++ u ∷ us)) (record { negated = true; left = a; relation = r; right = b })

-- conj = comp { "and" comp }
abbrev pub IsConjunction : List Token → List ComparisonTree → Type 0
IsConjunction = Separated (t.Sign sign.And) IsComparison

-- test = conj { "or" conj }
abbrev pub IsTest : List Token → TestTree → Type 0
IsTest = Separated (t.Sign sign.Or) IsConjunction

-- ---- keys and ranges, behind the name of their table

-- key = NAME "[" expr [ "," expr ] "]"
pub data IsKey : List Token → Name → KeyTree → Type 0 where
  one : (table : Name) (ts : List Token) (a : ExprTree)
      → IsExpr ts a
      → IsKey (t.Name table ∷ t.Sign sign.OpenKey ∷ (ts ++ t.Sign sign.CloseKey ∷ [])) table (One a)
  two : (table : Name) (ts us : List Token) (a b : ExprTree)
      → IsExpr ts a → IsExpr us b
      → IsKey (t.Name table ∷ t.Sign sign.OpenKey ∷ (ts ++ t.Sign sign.Comma ∷ (us ++ t.Sign sign.CloseKey ∷ []))) table (Two a b)

-- range = NAME "[" [ expr "," ] expr ".." expr "]"
pub data IsRange : List Token → Name → RangeTree → Type 0 where
  one : (table : Name) (ts us : List Token) (low high : ExprTree)
      → IsExpr ts low → IsExpr us high
      → IsRange (t.Name table ∷ t.Sign sign.OpenKey ∷ (ts ++ t.Sign sign.Dots ∷ (us ++ t.Sign sign.CloseKey ∷ []))) table (OneRange low high)
  two : (table : Name) (ts us vs : List Token) (a low high : ExprTree)
      → IsExpr ts a → IsExpr us low → IsExpr vs high
      → IsRange (t.Name table ∷ t.Sign sign.OpenKey ∷ (ts ++ t.Sign sign.Comma ∷ (us ++ t.Sign sign.Dots ∷ (vs ++ t.Sign sign.CloseKey ∷ [])))) table (TwoRange a low high)

-- ---- statements

-- a statement without blocks; one constructor for each alternative of the line stmt
pub data IsStatement : List Token → StatementTree → Type 0 where
  -- "let" NAME "=" expr ";"
  bind : (x : Name) (ts : List Token) (e : ExprTree)
      → IsExpr ts e
      → IsStatement (t.Sign sign.Let ∷ t.Name x ∷ t.Sign sign.Equals ∷ (ts ++ t.Sign sign.Semicolon ∷ [])) (Bind x e)
  -- "let" NAME "=" "get" key "else" expr ";"
  get : (x table : Name) (ks ts : List Token) (k : KeyTree) (e : ExprTree)
      → IsKey ks table k → IsExpr ts e
      → IsStatement (t.Sign sign.Let ∷ t.Name x ∷ t.Sign sign.Equals ∷ t.Sign sign.Get ∷ (ks ++ t.Sign sign.Else ∷ (ts ++ t.Sign sign.Semicolon ∷ []))) (Get x table k e)
  -- "let" NAME "=" "need" key ";"
  need : (x table : Name) (ks : List Token) (k : KeyTree)
      → IsKey ks table k
      → IsStatement (t.Sign sign.Let ∷ t.Name x ∷ t.Sign sign.Equals ∷ t.Sign sign.Need ∷ (ks ++ t.Sign sign.Semicolon ∷ [])) (Need x table k)
  -- "let" NAME "=" "count" range ";"
  count : (x table : Name) (rs : List Token) (r : RangeTree)
      → IsRange rs table r
      → IsStatement (t.Sign sign.Let ∷ t.Name x ∷ t.Sign sign.Equals ∷ t.Sign sign.Count ∷ (rs ++ t.Sign sign.Semicolon ∷ [])) (Count x table r)
  -- "let" NAME "=" "sum" range ";"
  sum : (x table : Name) (rs : List Token) (r : RangeTree)
      → IsRange rs table r
      → IsStatement (t.Sign sign.Let ∷ t.Name x ∷ t.Sign sign.Equals ∷ t.Sign sign.Sum ∷ (rs ++ t.Sign sign.Semicolon ∷ [])) (Sum x table r)
  -- "lacks" key ";"
  lacks : (table : Name) (ks : List Token) (k : KeyTree)
      → IsKey ks table k
      → IsStatement (t.Sign sign.Lacks ∷ (ks ++ t.Sign sign.Semicolon ∷ [])) (Lacks table k)
  -- "put" key "=" expr ";"
  put : (table : Name) (ks ts : List Token) (k : KeyTree) (e : ExprTree)
      → IsKey ks table k → IsExpr ts e
      → IsStatement (t.Sign sign.Put ∷ (ks ++ t.Sign sign.Equals ∷ (ts ++ t.Sign sign.Semicolon ∷ []))) (Put table k e)
  -- "insert" key "=" expr ";"
  insert : (table : Name) (ks ts : List Token) (k : KeyTree) (e : ExprTree)
      → IsKey ks table k → IsExpr ts e
      → IsStatement (t.Sign sign.Insert ∷ (ks ++ t.Sign sign.Equals ∷ (ts ++ t.Sign sign.Semicolon ∷ []))) (Insert table k e)
  -- "delete" key ";"
  delete : (table : Name) (ks : List Token) (k : KeyTree)
      → IsKey ks table k
      → IsStatement (t.Sign sign.Delete ∷ (ks ++ t.Sign sign.Semicolon ∷ [])) (Delete table k)
  -- "keep" key ";"
  keep : (table : Name) (ks : List Token) (k : KeyTree)
      → IsKey ks table k
      → IsStatement (t.Sign sign.Keep ∷ (ks ++ t.Sign sign.Semicolon ∷ [])) (Keep table k)
  -- "reply" expr ";"
  reply : (ts : List Token) (e : ExprTree)
      → IsExpr ts e
      → IsStatement (t.Sign sign.Reply ∷ (ts ++ t.Sign sign.Semicolon ∷ [])) (Reply e)
  -- "abort" ";"
  abort : IsStatement (t.Sign sign.Abort ∷ t.Sign sign.Semicolon ∷ []) Abort

mutual
  -- { stmt }: nothing; a statement and more; "if" test block [ "else" block ] and more;
  -- or "each" NAME "," NAME "in" range block and more
  pub data IsStatements : List Token → BlockTree → Type 0 where
    nothing : IsStatements [] BlockEnd
    more : (ts us : List Token) (s : StatementTree) (rest : BlockTree)
        → IsStatement ts s → IsStatements us rest
        → IsStatements (ts ++ us) (Then s rest)
    branch : (xs ts es us : List Token) (test : TestTree) (first second rest : BlockTree)
        → IsTest xs test → IsBlock ts first → IsElse es second → IsStatements us rest
        → IsStatements (t.Sign sign.If ∷ (xs ++ (ts ++ (es ++ us)))) (Branch test first second rest)
    each : (k v table : Name) (rs ts us : List Token) (r : RangeTree) (body rest : BlockTree)
        → IsRange rs table r → IsBlock ts body → IsStatements us rest
        → IsStatements (t.Sign sign.Each ∷ t.Name k ∷ t.Sign sign.Comma ∷ t.Name v ∷ t.Sign sign.In ∷ (rs ++ (ts ++ us))) (Each (record { key = k; value = v; table = table; range = r }) body rest)

  -- block = "{" { stmt } "}"
  pub data IsBlock : List Token → BlockTree → Type 0 where
    block : (ts : List Token) (b : BlockTree)
        → IsStatements ts b
        → IsBlock (t.Sign sign.OpenBlock ∷ (ts ++ t.Sign sign.CloseBlock ∷ [])) b

  -- [ "else" block ]; a missing one is an empty block
  pub data IsElse : List Token → BlockTree → Type 0 where
    missing : IsElse [] BlockEnd
    present : (ts : List Token) (b : BlockTree)
        → IsBlock ts b
        → IsElse (t.Sign sign.Else ∷ ts) b

-- ---- tables and programs

-- NUMBER is 1 or 2
pub data IsArity : ℕ → Arity → Type 0 where
  one : IsArity 1 arity.One
  two : IsArity 2 arity.Two

-- table = "table" NAME NUMBER [ "grow" ] ";"
pub data IsTable : List Token → TableDecl → Type 0 where
  plain : (x : Name) (n : ℕ) (a : Arity)
      → IsArity n a
      → IsTable (t.Sign sign.Table ∷ t.Name x ∷ t.Number n ∷ t.Sign sign.Semicolon ∷ []) (record { name = x; arity = a; grow = false })
  grows : (x : Name) (n : ℕ) (a : Arity)
      → IsArity n a
      → IsTable (t.Sign sign.Table ∷ t.Name x ∷ t.Number n ∷ t.Sign sign.Grow ∷ t.Sign sign.Semicolon ∷ []) (record { name = x; arity = a; grow = true })

-- NAME
pub data IsName : List Token → Name → Type 0 where
  name : (x : Name) → IsName (t.Name x ∷ []) x

-- [ NAME { "," NAME } ]
pub data IsParams : List Token → List Name → Type 0 where
  none : IsParams [] []
  some : (ts : List Token) (xs : List Name)
      → Separated (t.Sign sign.Comma) IsName ts xs
      → IsParams ts xs

-- program = "program" NAME "(" [ NAME { "," NAME } ] ")" block
pub data IsProgram : List Token → ProgramTree → Type 0 where
  program : (x : Name) (ps ts : List Token) (params : List Name) (body : BlockTree)
      → IsParams ps params → IsBlock ts body
      → IsProgram (t.Sign sign.Program ∷ t.Name x ∷ t.Sign sign.Open ∷ (ps ++ t.Sign sign.Close ∷ ts)) (record { name = x; params = params; body = body })

-- set = { table } { program }
pub data IsSet : List Token → DraftTree → Type 0 where
  set : (ts us : List Token) (tables : List TableDecl) (programs : List ProgramTree)
      → Many IsTable ts tables → Many IsProgram us programs
      → IsSet (ts ++ us) (record { tables = tables; programs = programs })

-- some set begins so
abbrev pub BeginsSet : List Token → Type 0
BeginsSet ts = (more : List Token) × (d : DraftTree) × IsSet (ts ++ more) d
