-- Which tokens of a set are looked for in its text.
use Rattle.std.proofs.Common.{◌≡◌, ◌∙◌, List, [], ◌∷◌, ◌++◌, length, length-append, map, refl, ap, arith}
use Rattle.std.specs.List.{flat_map}
use Rattle.std.proofs.lemmas.List.Elements.{filter-append}
use Rattle.std.proofs.lemmas.List.{append-nil}
use Rattle.prog_tree.specs.Syntax.{Name, ExprTree, ComparisonTree, TestTree, KeyTree, RangeTree, RelationSign, StatementTree, BlockTree, BlockEnd, Then, Branch, Each, ProgramTree, DraftTree}
use Rattle.prog_tree.specs.declared.table.TableDecl.{TableDecl}
use Rattle.prog_text.specs.declared.lexing.token.Token.{Token}
use Rattle.prog_text.specs.declared.lexing.token.Sign.TheVariants as sign
use Rattle.prog_text.specs.declared.lexing.token.Token.TheVariants as t
use Rattle.fault_words.specs.Beginnings.{beginnings_among, draft_beginnings, first_of, firsts_of, is_beginning, program_beginnings}
use Rattle.prog_text.specs.Grammar.{Many, Led, Separated, IsFactor, IsProduct, IsExpr, IsRelation, IsComparison, IsConjunction, IsTest, IsKey, IsRange, IsStatement, IsStatements, IsBlock, IsElse, IsTable, IsName, IsParams, IsProgram, IsSet}
use Rattle.prog_text.specs.Grammar as g
use Rattle.prog_check.specs.Paths.{statement_count}

-- ---- what has none

abbrev HasNone : List Token → Type 0
HasNone ts = beginnings_among ts ≡ []

-- the beginnings of two lists of tokens stand one behind the other
joined : (ts us vs ws : List Token) → beginnings_among ts ≡ vs → beginnings_among us ≡ ws → beginnings_among (ts ++ us) ≡ vs ++ ws
joined ts us vs ws h k =
    filter-append is_beginning ts us ∙ (ap (λ front. front ++ beginnings_among us) h ∙ ap (λ rest. vs ++ rest) k)

none_joined : (ts us : List Token) → HasNone ts → HasNone us → HasNone (ts ++ us)
none_joined ts us h k = joined ts us [] [] h k

mutual
  factor_none : (ts : List Token) (e : ExprTree) → IsFactor ts e → HasNone ts
  factor_none _ _ (g.IsFactor.number n) = refl
  factor_none _ _ (g.IsFactor.negative n) = refl
  factor_none _ _ g.IsFactor.least = refl
  factor_none _ _ g.IsFactor.greatest = refl
  factor_none _ _ (g.IsFactor.name x) = refl
  factor_none _ _ (g.IsFactor.bracketed ts e d) = none_joined ts (t.Sign sign.Close ∷ []) (expr_none ts e d) refl

  product_none : (ts : List Token) (e : ExprTree) → IsProduct ts e → HasNone ts
  product_none _ _ (g.IsProduct.factor ts e d) = factor_none ts e d
  product_none _ _ (g.IsProduct.times ts us a b d f) = none_joined ts (t.Sign sign.Times ∷ us) (product_none ts a d) (factor_none us b f)

  expr_none : (ts : List Token) (e : ExprTree) → IsExpr ts e → HasNone ts
  expr_none _ _ (g.IsExpr.product ts e d) = product_none ts e d
  expr_none _ _ (g.IsExpr.plus ts us a b d f) = none_joined ts (t.Sign sign.Plus ∷ us) (expr_none ts a d) (product_none us b f)
  expr_none _ _ (g.IsExpr.minus ts us a b d f) = none_joined ts (t.Sign sign.Minus ∷ us) (expr_none ts a d) (product_none us b f)

-- a list of phrases that have none has none
many_none : {A : Type 0} (P : List Token → A → Type 0) → ((ts : List Token) (x : A) → P ts x → HasNone ts)
    → (ts : List Token) (xs : List A) → Many P ts xs → HasNone ts
many_none P each _ _ g.Many.none = refl
many_none P each _ _ (g.Many.more ts us x xs d others) = none_joined ts us (each ts x d) (many_none P each us xs others)

led_none : {A : Type 0} (u : Token) (P : List Token → A → Type 0) → HasNone (u ∷ []) → ((ts : List Token) (x : A) → P ts x → HasNone ts)
    → (ts : List Token) (x : A) → Led u P ts x → HasNone ts
led_none u P alone each _ _ (g.Led.led ts x d) = none_joined (u ∷ []) ts alone (each ts x d)

separated_none : {A : Type 0} (u : Token) (P : List Token → A → Type 0) → HasNone (u ∷ []) → ((ts : List Token) (x : A) → P ts x → HasNone ts)
    → (ts : List Token) (xs : List A) → Separated u P ts xs → HasNone ts
separated_none u P alone each _ _ (g.Separated.separated ts us x xs d others) =
    none_joined ts us (each ts x d) (many_none (Led u P) (led_none u P alone each) us xs others)

relation_none : (u : Token) (r : RelationSign) → IsRelation u r → HasNone (u ∷ [])
relation_none _ _ g.IsRelation.less = refl
relation_none _ _ g.IsRelation.less_equal = refl
relation_none _ _ g.IsRelation.greater = refl
relation_none _ _ g.IsRelation.greater_equal = refl
relation_none _ _ g.IsRelation.equal = refl
relation_none _ _ g.IsRelation.not_equal = refl

compared_none : (ts us : List Token) (u : Token) (a b : ExprTree) (r : RelationSign) → IsExpr ts a → IsRelation u r → IsExpr us b → HasNone (ts ++ u ∷ us)
compared_none ts us u a b r d s e =
    none_joined ts (u ∷ us) (expr_none ts a d) (none_joined (u ∷ []) us (relation_none u r s) (expr_none us b e))

comparison_none : (ts : List Token) (c : ComparisonTree) → IsComparison ts c → HasNone ts
comparison_none _ _ (g.IsComparison.plain ts us u a b r d s e) = compared_none ts us u a b r d s e
comparison_none _ _ (g.IsComparison.negated ts us u a b r d s e) = compared_none ts us u a b r d s e

conjunction_none : (ts : List Token) (cs : List ComparisonTree) → IsConjunction ts cs → HasNone ts
conjunction_none = separated_none (t.Sign sign.And) IsComparison refl comparison_none

test_none : (ts : List Token) (test : TestTree) → IsTest ts test → HasNone ts
test_none = separated_none (t.Sign sign.Or) IsConjunction refl conjunction_none

-- an expression and a sign behind it
ended_none : (u : Token) (ts : List Token) (e : ExprTree) → HasNone (u ∷ []) → IsExpr ts e → HasNone (ts ++ u ∷ [])
ended_none u ts e alone d = none_joined ts (u ∷ []) (expr_none ts e d) alone

-- two expressions with a sign between them, and a sign behind
pair_none : (u : Token) (ts us : List Token) (a b : ExprTree) → HasNone (u ∷ []) → IsExpr ts a → IsExpr us b → HasNone (ts ++ u ∷ (us ++ t.Sign sign.CloseKey ∷ []))
pair_none u ts us a b alone d e =
    none_joined ts (u ∷ (us ++ t.Sign sign.CloseKey ∷ [])) (expr_none ts a d)
    (none_joined (u ∷ []) (us ++ t.Sign sign.CloseKey ∷ []) alone (ended_none (t.Sign sign.CloseKey) us b refl e))

key_none : (ts : List Token) (table : Name) (key : KeyTree) → IsKey ts table key → HasNone ts
key_none _ _ _ (g.IsKey.one table ts a d) = ended_none (t.Sign sign.CloseKey) ts a refl d
key_none _ _ _ (g.IsKey.two table ts us a b d e) = pair_none (t.Sign sign.Comma) ts us a b refl d e

range_none : (ts : List Token) (table : Name) (range : RangeTree) → IsRange ts table range → HasNone ts
range_none _ _ _ (g.IsRange.one table ts us low high d e) = pair_none (t.Sign sign.Dots) ts us low high refl d e
range_none _ _ _ (g.IsRange.two table ts us vs a low high d e f) =
    none_joined ts (t.Sign sign.Comma ∷ (us ++ t.Sign sign.Dots ∷ (vs ++ t.Sign sign.CloseKey ∷ []))) (expr_none ts a d)
    (pair_none (t.Sign sign.Dots) us vs low high refl e f)

-- ---- statements

-- a key, a sign, an expression and `;`
assigned_none : (u : Token) (ks ts : List Token) (table : Name) (key : KeyTree) (e : ExprTree) → HasNone (u ∷ []) → IsKey ks table key → IsExpr ts e
    → HasNone (ks ++ u ∷ (ts ++ t.Sign sign.Semicolon ∷ []))
assigned_none u ks ts table key e alone k d =
    none_joined ks (u ∷ (ts ++ t.Sign sign.Semicolon ∷ [])) (key_none ks table key k)
    (none_joined (u ∷ []) (ts ++ t.Sign sign.Semicolon ∷ []) alone (ended_none (t.Sign sign.Semicolon) ts e refl d))

last_key_none : (ks : List Token) (table : Name) (key : KeyTree) → IsKey ks table key → HasNone (ks ++ t.Sign sign.Semicolon ∷ [])
last_key_none ks table key k = none_joined ks (t.Sign sign.Semicolon ∷ []) (key_none ks table key k) refl

last_range_none : (rs : List Token) (table : Name) (range : RangeTree) → IsRange rs table range → HasNone (rs ++ t.Sign sign.Semicolon ∷ [])
last_range_none rs table range r = none_joined rs (t.Sign sign.Semicolon ∷ []) (range_none rs table range r) refl

-- of the tokens of a statement its first one is looked for, and no other
statement_first : (ts : List Token) (s : StatementTree) → IsStatement ts s → beginnings_among ts ≡ first_of s ∷ []
statement_first _ _ (g.IsStatement.bind x ts e d) = ap (λ us. t.Sign sign.Let ∷ us) (ended_none (t.Sign sign.Semicolon) ts e refl d)
statement_first _ _ (g.IsStatement.get x table ks ts k e d f) = ap (λ us. t.Sign sign.Let ∷ us) (assigned_none (t.Sign sign.Else) ks ts table k e refl d f)
statement_first _ _ (g.IsStatement.need x table ks k d) = ap (λ us. t.Sign sign.Let ∷ us) (last_key_none ks table k d)
statement_first _ _ (g.IsStatement.count x table rs r d) = ap (λ us. t.Sign sign.Let ∷ us) (last_range_none rs table r d)
statement_first _ _ (g.IsStatement.sum x table rs r d) = ap (λ us. t.Sign sign.Let ∷ us) (last_range_none rs table r d)
statement_first _ _ (g.IsStatement.lacks table ks k d) = ap (λ us. t.Sign sign.Lacks ∷ us) (last_key_none ks table k d)
statement_first _ _ (g.IsStatement.put table ks ts k e d f) = ap (λ us. t.Sign sign.Put ∷ us) (assigned_none (t.Sign sign.Equals) ks ts table k e refl d f)
statement_first _ _ (g.IsStatement.insert table ks ts k e d f) = ap (λ us. t.Sign sign.Insert ∷ us) (assigned_none (t.Sign sign.Equals) ks ts table k e refl d f)
statement_first _ _ (g.IsStatement.delete table ks k d) = ap (λ us. t.Sign sign.Delete ∷ us) (last_key_none ks table k d)
statement_first _ _ (g.IsStatement.keep table ks k d) = ap (λ us. t.Sign sign.Keep ∷ us) (last_key_none ks table k d)
statement_first _ _ (g.IsStatement.reply ts e d) = ap (λ us. t.Sign sign.Reply ∷ us) (ended_none (t.Sign sign.Semicolon) ts e refl d)
statement_first _ _ g.IsStatement.abort = refl

-- ---- blocks

-- what stands between the signs of a block
inside : (ts bs : List Token) → beginnings_among ts ≡ bs → beginnings_among (t.Sign sign.OpenBlock ∷ (ts ++ t.Sign sign.CloseBlock ∷ [])) ≡ bs
inside ts bs h = joined ts (t.Sign sign.CloseBlock ∷ []) bs [] h refl ∙ append-nil bs

mutual
  statements_firsts : (ts : List Token) (b : BlockTree) → IsStatements ts b → beginnings_among ts ≡ firsts_of b
  statements_firsts _ _ g.IsStatements.nothing = refl
  statements_firsts _ _ (g.IsStatements.more ts us s rest d others) =
      joined ts us (first_of s ∷ []) (firsts_of rest) (statement_first ts s d) (statements_firsts us rest others)
  statements_firsts _ _ (g.IsStatements.branch xs ts es us test first second rest x d e others) =
      ap (λ vs. t.Sign sign.If ∷ vs) (joined xs (ts ++ (es ++ us)) [] _ (test_none xs test x)
      (joined ts (es ++ us) _ _ (block_firsts ts first d)
      (joined es us _ _ (else_firsts es second e) (statements_firsts us rest others))))
  statements_firsts _ _ (g.IsStatements.each k v table rs ts us r body rest d e others) =
      ap (λ vs. t.Sign sign.Each ∷ vs) (joined rs (ts ++ us) [] _ (range_none rs table r d)
      (joined ts us _ _ (block_firsts ts body e) (statements_firsts us rest others)))

  block_firsts : (ts : List Token) (b : BlockTree) → IsBlock ts b → beginnings_among ts ≡ firsts_of b
  block_firsts _ _ (g.IsBlock.block ts b d) = inside ts (firsts_of b) (statements_firsts ts b d)

  else_firsts : (ts : List Token) (b : BlockTree) → IsElse ts b → beginnings_among ts ≡ firsts_of b
  else_firsts _ _ g.IsElse.missing = refl
  else_firsts _ _ (g.IsElse.present ts b d) = block_firsts ts b d

-- ---- tables and programs

table_word : (ts : List Token) (d : TableDecl) → IsTable ts d → beginnings_among ts ≡ t.Sign sign.Table ∷ []
table_word _ _ (g.IsTable.plain x n a is) = refl
table_word _ _ (g.IsTable.grows x n a is) = refl

tables_words : (ts : List Token) (tables : List TableDecl) → Many IsTable ts tables → beginnings_among ts ≡ map (λ table. t.Sign sign.Table) tables
tables_words _ _ g.Many.none = refl
tables_words _ _ (g.Many.more ts us x xs d others) =
    joined ts us (t.Sign sign.Table ∷ []) _ (table_word ts x d) (tables_words us xs others)

name_none : (ts : List Token) (x : Name) → IsName ts x → HasNone ts
name_none _ _ (g.IsName.name x) = refl

params_none : (ts : List Token) (xs : List Name) → IsParams ts xs → HasNone ts
params_none _ _ g.IsParams.none = refl
params_none _ _ (g.IsParams.some ts xs d) = separated_none (t.Sign sign.Comma) IsName refl name_none ts xs d

program_firsts : (ts : List Token) (p : ProgramTree) → IsProgram ts p → beginnings_among ts ≡ program_beginnings p
program_firsts _ _ (g.IsProgram.program x ps ts params body d b) =
    ap (λ vs. t.Sign sign.Program ∷ vs) (joined ps (t.Sign sign.Close ∷ ts) [] _ (params_none ps params d) (block_firsts ts body b))

programs_firsts : (ts : List Token) (ps : List ProgramTree) → Many IsProgram ts ps → beginnings_among ts ≡ flat_map program_beginnings ps
programs_firsts _ _ g.Many.none = refl
programs_firsts _ _ (g.Many.more ts us x xs d others) =
    joined ts us (program_beginnings x) _ (program_firsts ts x d) (programs_firsts us xs others)

pub set_firsts : (ts : List Token) (d : DraftTree) → IsSet ts d → beginnings_among ts ≡ draft_beginnings d
set_firsts _ _ (g.IsSet.set ts us tables programs d e) =
    joined ts us _ _ (tables_words ts tables d) (programs_firsts us programs e)

-- ---- numbers

pub as_many : (b : BlockTree) → length (firsts_of b) ≡ statement_count b
as_many BlockEnd = refl
as_many (Then s rest) = omega (arith, as_many rest)
as_many (Branch test a b rest) =
    rw (length-append (firsts_of a) (firsts_of b ++ firsts_of rest), length-append (firsts_of b) (firsts_of rest))
    (omega (arith, as_many a, as_many b, as_many rest))
as_many (Each l body rest) = rw (length-append (firsts_of body) (firsts_of rest)) (omega (arith, as_many body, as_many rest))
