-- How the parser reads: a function on lists of tokens for each of its functions, in their order.
-- What a text means is said in `Grammar`; that these functions read it is proved.
use Rattle.std.specs.Prelude.{◌≡◌, ℕ, zero, suc, pos, List, [], ◌∷◌, ◌++◌, length, Bool, true, false, Option, Some, None, Result, Ok, Err, if◌then◌else◌, ◌==◌}
use Rattle.std.proofs.Common.{neg_ℤ}
use denote.Enum.Bare.{sameb}
use Rattle.prog_tree.specs.Number.{least as least_number, greatest as greatest_number}
use Rattle.prog_tree.specs.Syntax.{Name, ExprTree, Literal, Named, Plus, Minus, Times, RelationSign, Less, LessEqual, Greater, GreaterEqual, Equal, NotEqual, ComparisonTree, TestTree, KeyTree, One, Two, RangeTree, OneRange, TwoRange, ListingTree, StatementTree, Bind, Get, Need, Count, Sum, Lacks, Put, Insert, Delete, Keep, Reply, Abort, BlockTree, BlockEnd, Then, Branch, Each, StmtTree, Plain, ProgramTree, DraftTree}
use Rattle.prog_tree.specs.declared.table.TableDecl.{TableDecl}
use Rattle.prog_tree.specs.declared.table.Arity.{Arity}
use Rattle.prog_tree.specs.declared.table.Arity.TheVariants as arity
use Rattle.prog_text.specs.declared.reading.read_error.ReadError.{ReadError}
use Rattle.prog_text.specs.declared.reading.read_error.ReadError.TheVariants as errors
use Rattle.prog_text.specs.contracts.lexing.token.Sign.{the_type}
use Rattle.prog_text.specs.declared.lexing.token.Sign.{Sign}
use Rattle.prog_text.specs.declared.lexing.token.Token.{Token}
use Rattle.prog_text.specs.declared.lexing.token.Sign.TheVariants as sign
use Rattle.prog_text.specs.declared.lexing.token.Token.TheVariants as t

-- where reading stops: how many tokens are left from the first that can't stand where it does
pub data Stop : Type 0 where
  Unexpected : (left : ℕ) → Stop

-- what was read, and the tokens after it
abbrev pub Reading : Type 0 → Type 0
Reading A = Result (A × List Token) Stop

-- one reading after another, up to the first stop
infixl 10 ◌>>=◌
abbrev pub ◌>>=◌ : {A B : Type 0} → Result A Stop → (A → Result B Stop) → Result B Stop
(Ok x) >>= f = f x
(Err e) >>= f = Err e

-- what is read, made into something else
abbrev pub made_into : {A B : Type 0} → (A → B) → Reading A → Reading B
made_into f read = do
  x ← read
  Ok (f x.0, x.1)

-- reading stops there too; want of memory says nothing of it
abbrev pub Fails : {Y : Type 0} → ReadError → Result Y Stop → Type 0
Fails errors.Memory read = Unit {0}
Fails (errors.Unexpected left) read = read ≡ Err (Unexpected left)

-- the code gives what the reading gives, unless memory runs out
abbrev pub Gives : {X Y : Type 0} → (X → Y) → Result X ReadError → Result Y Stop → Type 0
Gives view (Ok x) read = read ≡ Ok (view x)
Gives view (Err e) read = Fails e read

-- the first of these tokens doesn't fit here
abbrev pub unexpected : {A : Type 0} → List Token → Result A Stop
unexpected ts = Err (Unexpected (length ts))

-- ---- single tokens

-- both are the same sign or word
abbrev pub same_sign : Sign → Sign → Bool
same_sign = sameb the_type

-- any token
abbrev pub next_at : List Token → Reading Token
next_at (u ∷ ts) = Ok (u, ts)
next_at [] = unexpected []

-- the tokens behind a sign or word, where it comes next
abbrev pub after_sign : Sign → List Token → Option (List Token)
after_sign u (t.Sign v ∷ ts) = if same_sign v u then Some ts else None
after_sign u ts = None

-- where the sign comes next, what is read behind it, and else something else
abbrev pub behind_sign : {A : Type 0} → Option (List Token) → (List Token → Reading A) → Reading A → Reading A
behind_sign (Some ts) read other = read ts
behind_sign None read other = other

-- a sign or word that has to come next
abbrev pub expect : Sign → List Token → Reading (Unit {0})
expect u ts = behind_sign (after_sign u ts) (λ rest. Ok (tt, rest)) (unexpected ts)

-- no token may be left
abbrev pub end_at : List Token → Reading (Unit {0})
end_at [] = Ok (tt, [])
end_at ts = unexpected ts

-- a name
abbrev pub name_at : List Token → Reading Name
name_at (t.Name x ∷ ts) = Ok (x, ts)
name_at ts = unexpected ts

-- ---- lists

-- Phrases that each stand behind a sign, after those that are done; n is at least the number of tokens.
unfoldable pub many_from : {A : Type 0} → (after : List Token → Option (List Token))
    → (read : List Token → Reading A) → ℕ → List A → List Token → Reading (List A)
many_from after read zero done ts = Ok (done, ts)
many_from after read (suc n) done ts =
    behind_sign (after ts) (λ ts. do
      x ← read ts
      many_from after read n (done ++ x.0 ∷ []) x.1)
    (Ok (done, ts))

-- such phrases with a sign between them
unfoldable pub separated_at : {A : Type 0} → (after : List Token → Option (List Token))
    → (read : List Token → Reading A) → List Token → Reading (List A)
separated_at after read ts = do
  first ← read ts
  many_from after read (length first.1) (first.0 ∷ []) first.1

-- ---- expressions

-- the number after a minus sign
abbrev pub negative_at : List Token → Reading ExprTree
negative_at (t.Number n ∷ ts) = Ok (Literal (neg_ℤ (pos n)), ts)
negative_at ts = unexpected ts

-- a factor, where `inner` reads what stands in brackets
unfoldable pub factor_at : (inner : List Token → Reading ExprTree) → List Token → Reading ExprTree
factor_at inner (t.Number n ∷ ts) = Ok (Literal (pos n), ts)
factor_at inner (t.Sign sign.Minus ∷ ts) = negative_at ts
factor_at inner (t.Sign sign.Least ∷ ts) = Ok (Literal least_number, ts)
factor_at inner (t.Sign sign.Greatest ∷ ts) = Ok (Literal greatest_number, ts)
factor_at inner (t.Name x ∷ ts) = Ok (Named x, ts)
factor_at inner (t.Sign sign.Open ∷ ts) = do
  e ← inner ts
  closed ← expect sign.Close e.1
  Ok (e.0, closed.1)
factor_at inner ts = unexpected ts

-- Goes on behind factors that make `left`; n is at least the number of tokens.
unfoldable pub product_from : (inner : List Token → Reading ExprTree) → ℕ → ExprTree → List Token → Reading ExprTree
product_from inner zero left ts = Ok (left, ts)
product_from inner (suc n) left ts =
    behind_sign (after_sign sign.Times ts) (λ ts. do
      right ← factor_at inner ts
      product_from inner n (Times left right.0) right.1)
    (Ok (left, ts))

-- factors with `*` between them
unfoldable pub product_at : (inner : List Token → Reading ExprTree) → List Token → Reading ExprTree
product_at inner ts = do
  first ← factor_at inner ts
  product_from inner (length first.1) first.0 first.1

-- Goes on behind products that make `left`; n is at least the number of tokens.
unfoldable pub sum_from : (inner : List Token → Reading ExprTree) → ℕ → ExprTree → List Token → Reading ExprTree
sum_from inner zero left ts = Ok (left, ts)
sum_from inner (suc n) left ts =
    behind_sign (after_sign sign.Plus ts) (λ ts. do
      right ← product_at inner ts
      sum_from inner n (Plus left right.0) right.1)
    (behind_sign (after_sign sign.Minus ts) (λ ts. do
      right ← product_at inner ts
      sum_from inner n (Minus left right.0) right.1)
    (Ok (left, ts)))

-- products with `+` and `-` between them
unfoldable pub sum_at : (inner : List Token → Reading ExprTree) → List Token → Reading ExprTree
sum_at inner ts = do
  first ← product_at inner ts
  sum_from inner (length first.1) first.0 first.1

-- an expression, and those in its brackets; n is at least the number of tokens
unfoldable pub expr_within : ℕ → List Token → Reading ExprTree
expr_within zero ts = unexpected ts
expr_within (suc n) ts = sum_at (expr_within n) ts

-- an expression
unfoldable pub expr_at : List Token → Reading ExprTree
expr_at ts = expr_within (length ts) ts

-- ---- tests

-- a sign that compares
abbrev pub relation_at : List Token → Reading RelationSign
relation_at (t.Sign sign.Less ∷ ts) = Ok (Less, ts)
relation_at (t.Sign sign.LessEqual ∷ ts) = Ok (LessEqual, ts)
relation_at (t.Sign sign.Greater ∷ ts) = Ok (Greater, ts)
relation_at (t.Sign sign.GreaterEqual ∷ ts) = Ok (GreaterEqual, ts)
relation_at (t.Sign sign.EqualEqual ∷ ts) = Ok (Equal, ts)
relation_at (t.Sign sign.NotEqual ∷ ts) = Ok (NotEqual, ts)
relation_at ts = unexpected ts

-- two expressions with a sign between them that compares
unfoldable pub compared_at : (negated : Bool) → List Token → Reading ComparisonTree
compared_at negated ts = do
  left ← expr_at ts
  relation ← relation_at left.1
  right ← expr_at relation.1
  Ok (record { negated = negated; left = left.0; relation = relation.0; right = right.0 }, right.1)

-- a comparison, which a `not` negates
unfoldable pub comparison_at : List Token → Reading ComparisonTree
comparison_at ts = behind_sign (after_sign sign.Not ts) (compared_at true) (compared_at false ts)

-- comparisons with `and` between them
abbrev pub conjunction_at : List Token → Reading (List ComparisonTree)
conjunction_at ts = separated_at (after_sign sign.And) comparison_at ts

-- such lists with `or` between them
abbrev pub test_at : List Token → Reading TestTree
test_at ts = separated_at (after_sign sign.Or) conjunction_at ts

-- ---- keys and ranges

-- behind the first expression of a key
unfoldable pub key_from : ExprTree → List Token → Reading KeyTree
key_from first ts =
    behind_sign (after_sign sign.Comma ts) (λ ts. do
      second ← expr_at ts
      closed ← expect sign.CloseKey second.1
      Ok (Two first second.0, closed.1))
    (do
      closed ← expect sign.CloseKey ts
      Ok (One first, closed.1))

-- a table's name and a key
unfoldable pub key_at : List Token → Reading (Name × KeyTree)
key_at ts = do
  table ← name_at ts
  opened ← expect sign.OpenKey table.1
  first ← expr_at opened.1
  key ← key_from first.0 first.1
  Ok ((table.0, key.0), key.1)

-- behind the low end of a range: the high one
unfoldable pub high_at : List Token → Reading ExprTree
high_at ts = do
  dots ← expect sign.Dots ts
  high ← expr_at dots.1
  closed ← expect sign.CloseKey high.1
  Ok (high.0, closed.1)

-- behind the first expression of a range
unfoldable pub range_from : ExprTree → List Token → Reading RangeTree
range_from first ts =
    behind_sign (after_sign sign.Comma ts) (λ ts. do
      low ← expr_at ts
      high ← high_at low.1
      Ok (TwoRange first low.0 high.0, high.1))
    (do
      high ← high_at ts
      Ok (OneRange first high.0, high.1))

-- a table's name and a range
unfoldable pub range_at : List Token → Reading (Name × RangeTree)
range_at ts = do
  table ← name_at ts
  opened ← expect sign.OpenKey table.1
  first ← expr_at opened.1
  range ← range_from first.0 first.1
  Ok ((table.0, range.0), range.1)

-- ---- what stands before the end of a statement

-- an expression and `;`
unfoldable pub last_expr_at : List Token → Reading ExprTree
last_expr_at ts = do
  e ← expr_at ts
  ended ← expect sign.Semicolon e.1
  Ok (e.0, ended.1)

-- a key and `;`
unfoldable pub last_key_at : List Token → Reading (Name × KeyTree)
last_key_at ts = do
  key ← key_at ts
  ended ← expect sign.Semicolon key.1
  Ok (key.0, ended.1)

-- a range and `;`
unfoldable pub last_range_at : List Token → Reading (Name × RangeTree)
last_range_at ts = do
  range ← range_at ts
  ended ← expect sign.Semicolon range.1
  Ok (range.0, ended.1)

-- a key, `=`, an expression and `;`
unfoldable pub assigned_at : List Token → Reading ((Name × KeyTree) × ExprTree)
assigned_at ts = do
  key ← key_at ts
  equals ← expect sign.Equals key.1
  value ← last_expr_at equals.1
  Ok ((key.0, value.0), value.1)

-- ---- statements

-- behind `let NAME =`: an expression
unfoldable pub bind_at : Name → List Token → Reading StatementTree
bind_at name ts = made_into (Bind name) (last_expr_at ts)

-- behind `let NAME = get`
unfoldable pub get_at : Name → List Token → Reading StatementTree
get_at name ts = do
  key ← key_at ts
  other ← expect sign.Else key.1
  otherwise ← last_expr_at other.1
  Ok (Get name key.0.0 key.0.1 otherwise.0, otherwise.1)

-- behind `let NAME =`: what is bound, by its first token
unfoldable pub bound_at : Name → List Token → Reading StatementTree
bound_at name (t.Sign sign.Get ∷ ts) = get_at name ts
bound_at name (t.Sign sign.Need ∷ ts) = made_into (λ key. Need name key.0 key.1) (last_key_at ts)
bound_at name (t.Sign sign.Count ∷ ts) = made_into (λ range. Count name range.0 range.1) (last_range_at ts)
bound_at name (t.Sign sign.Sum ∷ ts) = made_into (λ range. Sum name range.0 range.1) (last_range_at ts)
bound_at name ts = bind_at name ts

-- behind the word `let`
unfoldable pub let_at : List Token → Reading StatementTree
let_at ts = do
  name ← name_at ts
  equals ← expect sign.Equals name.1
  bound_at name.0 equals.1

-- a statement without blocks
unfoldable pub statement_at : List Token → Reading StatementTree
statement_at (t.Sign sign.Let ∷ ts) = let_at ts
statement_at (t.Sign sign.Lacks ∷ ts) = made_into (λ key. Lacks key.0 key.1) (last_key_at ts)
statement_at (t.Sign sign.Put ∷ ts) = made_into (λ row. Put row.0.0 row.0.1 row.1) (assigned_at ts)
statement_at (t.Sign sign.Insert ∷ ts) = made_into (λ row. Insert row.0.0 row.0.1 row.1) (assigned_at ts)
statement_at (t.Sign sign.Delete ∷ ts) = made_into (λ key. Delete key.0 key.1) (last_key_at ts)
statement_at (t.Sign sign.Keep ∷ ts) = made_into (λ key. Keep key.0 key.1) (last_key_at ts)
statement_at (t.Sign sign.Reply ∷ ts) = made_into Reply (last_expr_at ts)
statement_at (t.Sign sign.Abort ∷ ts) = made_into (λ ended. Abort) (expect sign.Semicolon ts)
statement_at ts = unexpected ts

-- a statement without blocks, read as one of a block
abbrev pub as_plain : Reading StatementTree → Reading StmtTree
as_plain read = made_into Plain read

-- ---- blocks; `body` reads what is left of a block, and its closing sign

-- a block with its two signs
unfoldable pub block_at : (body : List Token → Reading BlockTree) → List Token → Reading BlockTree
block_at body ts = do
  begun ← expect sign.OpenBlock ts
  body begun.1

-- a head, the block that it begins, and what is read behind both
abbrev pub headed_at : {H : Type 0} → (head : List Token → Reading H)
    → (behind : H → BlockTree → List Token → Reading BlockTree) → (body : List Token → Reading BlockTree)
    → List Token → Reading BlockTree
headed_at head behind body ts = do
  begun ← head ts
  inside ← block_at body begun.1
  behind begun.0 inside.0 inside.1

-- the second block of a branch, or nothing where there is none
unfoldable pub second_at : (body : List Token → Reading BlockTree) → List Token → Reading BlockTree
second_at body ts = behind_sign (after_sign sign.Else ts) (block_at body) (Ok (BlockEnd, ts))

-- behind the second block of a branch
unfoldable pub behind_second : (body : List Token → Reading BlockTree) → TestTree → (first second : BlockTree)
    → List Token → Reading BlockTree
behind_second body test first second ts = made_into (Branch test first second) (body ts)

-- behind the first block of a branch
unfoldable pub behind_first : (body : List Token → Reading BlockTree) → TestTree → (first : BlockTree)
    → List Token → Reading BlockTree
behind_first body test first ts = do
  second ← second_at body ts
  behind_second body test first second.0 second.1

-- behind the word `if`: a branch, and the rest of its block
unfoldable pub branch_at : (body : List Token → Reading BlockTree) → List Token → Reading BlockTree
branch_at body ts = headed_at test_at (behind_first body) body ts

-- behind the word `each`: two names and the range whose rows are listed
unfoldable pub listing_at : List Token → Reading ListingTree
listing_at ts = do
  key ← name_at ts
  comma ← expect sign.Comma key.1
  value ← name_at comma.1
  word ← expect sign.In value.1
  range ← range_at word.1
  Ok (record { key = key.0; value = value.0; table = range.0.0; range = range.0.1 }, range.1)

-- behind the block of an `each`
unfoldable pub behind_turns : (body : List Token → Reading BlockTree) → ListingTree → (inside : BlockTree)
    → List Token → Reading BlockTree
behind_turns body listing inside ts = made_into (Each listing inside) (body ts)

-- behind the word `each`: an `each`, and the rest of its block
unfoldable pub each_at : (body : List Token → Reading BlockTree) → List Token → Reading BlockTree
each_at body ts = headed_at listing_at (behind_turns body) body ts

-- a statement without blocks, and the rest of its block
unfoldable pub more_at : (body : List Token → Reading BlockTree) → List Token → Reading BlockTree
more_at body ts = do
  s ← statement_at ts
  made_into (Then s.0) (body s.1)

-- what is left of a block, and its closing sign; n is at least the number of tokens
unfoldable pub body_within : ℕ → List Token → Reading BlockTree
body_within zero ts = unexpected ts
body_within (suc n) ts =
    behind_sign (after_sign sign.CloseBlock ts) (λ ts. Ok (BlockEnd, ts))
    (behind_sign (after_sign sign.If ts) (branch_at (body_within n))
    (behind_sign (after_sign sign.Each ts) (each_at (body_within n)) (more_at (body_within n) ts)))

-- what is left of a block, and its closing sign
unfoldable pub body_at : List Token → Reading BlockTree
body_at ts = body_within (length ts) ts

-- ---- tables and programs

-- 1 or 2
unfoldable pub arity_at : List Token → Reading Arity
arity_at (t.Number n ∷ ts) =
    if n == 1 then Ok (arity.One, ts)
    else if n == 2 then Ok (arity.Two, ts)
    else unexpected (t.Number n ∷ ts)
arity_at ts = unexpected ts

-- the word `grow`, or nothing
abbrev pub grow_at : List Token → Reading Bool
grow_at ts = behind_sign (after_sign sign.Grow ts) (λ rest. Ok (true, rest)) (Ok (false, ts))

-- behind the word `table`
unfoldable pub table_at : List Token → Reading TableDecl
table_at ts = do
  name ← name_at ts
  columns ← arity_at name.1
  grow ← grow_at columns.1
  ended ← expect sign.Semicolon grow.1
  Ok (record { name = name.0; arity = columns.0; grow = grow.0 }, ended.1)

-- the tables at the front of a set
abbrev pub tables_at : List Token → Reading (List TableDecl)
tables_at ts = many_from (after_sign sign.Table) table_at (length ts) [] ts

-- names with a comma between them
abbrev pub names_at : List Token → Reading (List Name)
names_at ts = separated_at (after_sign sign.Comma) name_at ts

-- the parameters of a program and the closing bracket
unfoldable pub params_at : List Token → Reading (List Name)
params_at ts =
    behind_sign (after_sign sign.Close ts) (λ ts. Ok ([], ts)) (do
      names ← names_at ts
      closed ← expect sign.Close names.1
      Ok (names.0, closed.1))

-- behind the word `program`
unfoldable pub program_at : List Token → Reading ProgramTree
program_at ts = do
  name ← name_at ts
  opened ← expect sign.Open name.1
  params ← params_at opened.1
  body ← block_at body_at params.1
  Ok (record { name = name.0; params = params.0; body = body.0 }, body.1)

-- the programs at the end of a set
abbrev pub programs_at : List Token → Reading (List ProgramTree)
programs_at ts = many_from (after_sign sign.Program) program_at (length ts) [] ts

-- a whole set
unfoldable pub set_at : List Token → Reading DraftTree
set_at ts = do
  tables ← tables_at ts
  programs ← programs_at tables.1
  ended ← end_at programs.1
  Ok (record { tables = tables.0; programs = programs.0 }, ended.1)
