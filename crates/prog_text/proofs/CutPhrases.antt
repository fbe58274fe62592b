-- What is printed of a phrase that a text has is cut into its tokens again.
use Rattle.std.proofs.Common.{ℕ, zero, suc, pos, negsuc, List, [], ◌∷◌, ◌++◌, refl, sym, subst, append_assoc, arith}
use Rattle.std.specs.List.{flat_map}
use Rattle.std.specs.Ordering.{int_eq}
use Rattle.std.proofs.lemmas.List.{append-nil}
use Rattle.prog_tree.specs.Number.{least as least_number, greatest as greatest_number}
use Rattle.prog_tree.specs.Syntax as s
use Rattle.prog_tree.specs.Syntax.{Name, ExprTree, RelationSign, ComparisonTree, TestTree, KeyTree, RangeTree, StatementTree, BlockTree, ProgramTree, DraftTree}
use Rattle.prog_tree.specs.declared.table.TableDecl.{TableDecl}
use Rattle.prog_text.specs.declared.lexing.token.Token.{Token}
use Rattle.prog_text.specs.declared.lexing.token.Sign.TheVariants as sign
use Rattle.prog_text.specs.declared.lexing.token.Token.TheVariants as t
use Rattle.prog_text.specs.Grammar.{Many, none, more, Led, led, Separated, separated, IsFactor, number, negative, least, greatest, name, bracketed, IsProduct, factor, times, IsExpr, product, plus, minus, IsRelation, IsComparison, plain, negated, IsConjunction, IsTest, IsKey, IsRange, IsStatement, bind, get, need, count, sum, lacks, put, insert, delete, keep, reply, abort, IsStatements, nothing, branch, IsBlock, block, IsElse, missing, present, IsArity, IsTable, grows, IsName, IsParams, some, IsProgram, program, IsSet, set}
use Rattle.prog_text.specs.Grammar as g
use Rattle.prog_text.specs.Canonical.{Mark, Word, Space, LineEnd, spaced, leading, is_sum, expr_marks, relation_token, comparison_marks, each_behind, joined_by, conjunction_marks, test_marks, comma, inside_key, key_marks, ends_marks, range_marks, let_marks, statement_marks, line, with_semicolon, else_line, close_line, else_marks, block_marks, arity_number, table_marks, name_marks, program_marks, draft_marks}
use Rattle.prog_text.proofs.Breaks.{IsLexed}
use Rattle.prog_text.proofs.CutMarks.{Closed, Open, Begins, nothing_closed, closed_open, after_closed, after_open, space_begins, space_closed, line_end_closed, indent_closed, word_open, leading_closed, spaced_closed, sign_closed, sign_begins, open_if, in_brackets}

-- tokens that a text can have
abbrev pub AreLexed : List Token → Type 0
AreLexed [] = Unit {0}
AreLexed (u ∷ ts) = IsLexed u × AreLexed ts

lexed_parts : (ts us : List Token) → AreLexed (ts ++ us) → AreLexed ts × AreLexed us
lexed_parts [] us h = (tt, h)
lexed_parts (u ∷ ts) us h = let others : AreLexed ts × AreLexed us = lexed_parts ts us h.1 in ((h.0, others.0), others.1)

-- ---- expressions

-- two sides with the token u between them, which were read with the token v there
sides_open : (u v : Token) → IsLexed u → (ts us : List Token) (a b : List Mark) → (AreLexed ts → Open a) → (AreLexed us → Open b) → AreLexed (ts ++ v ∷ us) → Open (a ++ (spaced u ++ b))
sides_open u v lexed ts us a b left right h =
    let both : AreLexed ts × AreLexed (v ∷ us) = lexed_parts ts (v ∷ us) h in
    after_open (left both.0) (space_begins (Word u ∷ Space ∷ b)) (after_closed (spaced_closed u lexed) (right both.1.1))

mutual
  factor_open : (ts : List Token) (e : ExprTree) → IsFactor ts e → AreLexed ts → Open (expr_marks e)
  factor_open _ _ (number n) h =
      open_if (int_eq (pos n) greatest_number) _ _ (word_open (t.Sign sign.Greatest) tt) (word_open (t.Number n) h.0)
  factor_open _ _ (negative zero) h = word_open (t.Number 0) h.1.0
  factor_open _ _ (negative (suc n)) h =
      open_if (int_eq (negsuc n) least_number) _ _ (word_open (t.Sign sign.Least) tt) (after_closed (sign_closed sign.Minus refl) (word_open (t.Number (suc n)) h.1.0))
  factor_open _ _ least h = word_open (t.Sign sign.Least) tt
  factor_open _ _ greatest h = word_open (t.Sign sign.Greatest) tt
  factor_open _ _ (name x) h = word_open (t.Name x) h.0
  factor_open _ _ (bracketed ts e d) h = expr_open ts e d (lexed_parts ts (t.Sign sign.Close ∷ []) h.1).0

  product_open : (ts : List Token) (e : ExprTree) → IsProduct ts e → AreLexed ts → Open (expr_marks e)
  product_open _ _ (factor ts e d) h = factor_open ts e d h
  product_open _ _ (times ts us a b left right) h =
      sides_open (t.Sign sign.Times) (t.Sign sign.Times) tt ts us _ _ (λ h. in_brackets (is_sum a) (expr_marks a) (product_open ts a left h)) (λ h. in_brackets _ (expr_marks b) (factor_open us b right h)) h

  expr_open : (ts : List Token) (e : ExprTree) → IsExpr ts e → AreLexed ts → Open (expr_marks e)
  expr_open _ _ (product ts e d) h = product_open ts e d h
  expr_open _ _ (plus ts us a b left right) h =
      sides_open (t.Sign sign.Plus) (t.Sign sign.Plus) tt ts us _ _ (λ h. expr_open ts a left h) (λ h. in_brackets (is_sum b) (expr_marks b) (product_open us b right h)) h
  expr_open _ _ (minus ts us a b left right) h =
      sides_open (t.Sign sign.Minus) (t.Sign sign.Minus) tt ts us _ _ (λ h. expr_open ts a left h) (λ h. in_brackets (is_sum b) (expr_marks b) (product_open us b right h)) h

-- before a last token
last_open : (u : Token) (ts : List Token) (e : ExprTree) → IsExpr ts e → AreLexed (ts ++ u ∷ []) → Open (expr_marks e)
last_open u ts e d h = expr_open ts e d (lexed_parts ts (u ∷ []) h).0

-- ---- lists with a separator

more_open : {A : Type 0} (P : List Token → A → Type 0) (u : Token) (separator : List Mark) (marks : A → List Mark)
    → ((ts : List Token) (x : A) → P ts x → AreLexed ts → Open (marks x)) → Closed separator → ((others : List Mark) → Begins (separator ++ others))
    → (front : List Mark) → Open front → (ts : List Token) (xs : List A) → Many (Led u P) ts xs → AreLexed ts → Open (front ++ each_behind separator marks xs)
more_open P u separator marks each closed begins front h _ _ none lexed = subst Open (sym (append-nil front)) h
more_open P u separator marks each closed begins front h _ _ (more _ us _ xs (led ts x d) others) lexed =
    let both : AreLexed (u ∷ ts) × AreLexed us = lexed_parts (u ∷ ts) us lexed in
    let longer : Open (front ++ (separator ++ marks x)) = after_open h (begins (marks x)) (after_closed closed (each ts x d both.0.1)) in
    subst Open (append_assoc front (separator ++ marks x) (each_behind separator marks xs)) (more_open P u separator marks each closed begins _ longer us xs others both.1)

joined_open : {A : Type 0} (P : List Token → A → Type 0) (u : Token) (separator : List Mark) (marks : A → List Mark)
    → ((ts : List Token) (x : A) → P ts x → AreLexed ts → Open (marks x)) → Closed separator → ((others : List Mark) → Begins (separator ++ others))
    → (ts : List Token) (xs : List A) → Separated u P ts xs → AreLexed ts → Open (joined_by separator marks xs)
joined_open P u separator marks each closed begins _ _ (separated ts us x xs d others) lexed =
    let both : AreLexed ts × AreLexed us = lexed_parts ts us lexed in
    more_open P u separator marks each closed begins (marks x) (each ts x d both.0) us xs others both.1

-- ---- tests

relation_lexed : (r : RelationSign) → IsLexed (relation_token r)
relation_lexed s.Less = tt
relation_lexed r = tt

compared_open : (ts us : List Token) (u : Token) (a b : ExprTree) (r : RelationSign) → IsExpr ts a → IsExpr us b → AreLexed (ts ++ u ∷ us) → Open (expr_marks a ++ (spaced (relation_token r) ++ expr_marks b))
compared_open ts us u a b r left right h =
    sides_open (relation_token r) u (relation_lexed r) ts us _ _ (λ h. expr_open ts a left h) (λ h. expr_open us b right h) h

comparison_open : (ts : List Token) (c : ComparisonTree) → IsComparison ts c → AreLexed ts → Open (comparison_marks c)
comparison_open _ _ (g.IsComparison.plain ts us u a b r left compares right) h = compared_open ts us u a b r left right h
comparison_open _ _ (negated ts us u a b r left compares right) h = after_closed (leading_closed (t.Sign sign.Not) tt) (compared_open ts us u a b r left right h.1)

conjunction_open : (ts : List Token) (cs : List ComparisonTree) → IsConjunction ts cs → AreLexed ts → Open (conjunction_marks cs)
conjunction_open = joined_open IsComparison (t.Sign sign.And) (spaced (t.Sign sign.And)) comparison_marks comparison_open (spaced_closed (t.Sign sign.And) tt) (λ others. space_begins (Word (t.Sign sign.And) ∷ Space ∷ others))

test_open : (ts : List Token) (test : TestTree) → IsTest ts test → AreLexed ts → Open (test_marks test)
test_open = joined_open IsConjunction (t.Sign sign.Or) (spaced (t.Sign sign.Or)) conjunction_marks conjunction_open (spaced_closed (t.Sign sign.Or) tt) (λ others. space_begins (Word (t.Sign sign.Or) ∷ Space ∷ others))

-- ---- keys and ranges

comma_begins : (others : List Mark) → Begins (comma ++ others)
comma_begins others = sign_begins (t.Sign sign.Comma) (Space ∷ others) (λ rest. refl)

comma_open : (a b : List Mark) → Open a → Open b → Open (a ++ (comma ++ b))
comma_open a b first second = after_open first (comma_begins b) (after_closed (leading_closed (t.Sign sign.Comma) tt) second)

key_closed : (table : Name) (marks : List Mark) → IsLexed (t.Name table) → Open marks → Closed (inside_key table marks)
key_closed table marks lexed h =
    after_open (word_open (t.Name table) lexed) (sign_begins (t.Sign sign.OpenKey) (marks ++ Word (t.Sign sign.CloseKey) ∷ []) (λ rest. refl))
    (after_closed (sign_closed sign.OpenKey refl) (after_open h (sign_begins (t.Sign sign.CloseKey) [] (λ rest. refl)) (sign_closed sign.CloseKey refl)))

key_of : (ts : List Token) (table : Name) (k : KeyTree) → IsKey ts table k → AreLexed ts → Closed (key_marks table k)
key_of _ _ _ (g.IsKey.one table ts a d) h = key_closed table _ h.0 (last_open (t.Sign sign.CloseKey) ts a d h.1.1)
key_of _ _ _ (g.IsKey.two table ts us a b first second) h =
    let both : AreLexed ts × AreLexed (t.Sign sign.Comma ∷ (us ++ t.Sign sign.CloseKey ∷ [])) = lexed_parts ts _ h.1.1 in
    key_closed table _ h.0 (comma_open (expr_marks a) (expr_marks b) (expr_open ts a first both.0) (last_open (t.Sign sign.CloseKey) us b second both.1.1))

ends_open : (ts us : List Token) (low high : ExprTree) → IsExpr ts low → IsExpr us high → AreLexed (ts ++ t.Sign sign.Dots ∷ (us ++ t.Sign sign.CloseKey ∷ [])) → Open (ends_marks low high)
ends_open ts us low high first second h =
    let both : AreLexed ts × AreLexed (t.Sign sign.Dots ∷ (us ++ t.Sign sign.CloseKey ∷ [])) = lexed_parts ts _ h in
    after_open (expr_open ts low first both.0) (sign_begins (t.Sign sign.Dots) (expr_marks high) (λ rest. refl))
    (after_closed (sign_closed sign.Dots refl) (last_open (t.Sign sign.CloseKey) us high second both.1.1))

range_of : (ts : List Token) (table : Name) (r : RangeTree) → IsRange ts table r → AreLexed ts → Closed (range_marks table r)
range_of _ _ _ (g.IsRange.one table ts us low high first second) h = key_closed table _ h.0 (ends_open ts us low high first second h.1.1)
range_of _ _ _ (g.IsRange.two table ts us vs a low high whole first second) h =
    let both : AreLexed ts × AreLexed (t.Sign sign.Comma ∷ (us ++ t.Sign sign.Dots ∷ (vs ++ t.Sign sign.CloseKey ∷ []))) = lexed_parts ts _ h.1.1 in
    key_closed table _ h.0 (comma_open (expr_marks a) (ends_marks low high) (expr_open ts a whole both.0) (ends_open us vs low high first second both.1.1))

-- ---- statements

let_closed : (x : Name) → IsLexed (t.Name x) → Closed (let_marks x)
let_closed x lexed = after_closed (leading_closed (t.Sign sign.Let) tt) (after_open (word_open (t.Name x) lexed) (space_begins (Word (t.Sign sign.Equals) ∷ Space ∷ [])) (spaced_closed (t.Sign sign.Equals) tt))

-- behind a word: a key, a token and an expression; a key alone; a range alone
key_and_open : (word : Token) → IsLexed word → (u : Token) → IsLexed u → (ks ts : List Token) (table : Name) (k : KeyTree) (e : ExprTree) → IsKey ks table k → IsExpr ts e → AreLexed (ks ++ u ∷ (ts ++ t.Sign sign.Semicolon ∷ []))
    → Open (leading word ++ (key_marks table k ++ (spaced u ++ expr_marks e)))
key_and_open word first u lexed ks ts table k e is_key is_expr h =
    let both : AreLexed ks × AreLexed (u ∷ (ts ++ t.Sign sign.Semicolon ∷ [])) = lexed_parts ks _ h in
    after_closed (leading_closed word first) (after_closed (key_of ks table k is_key both.0) (after_closed (spaced_closed u lexed) (last_open (t.Sign sign.Semicolon) ts e is_expr both.1.1)))

key_line : (word : Token) → IsLexed word → (ks : List Token) (table : Name) (k : KeyTree) → IsKey ks table k → AreLexed (ks ++ t.Sign sign.Semicolon ∷ []) → Open (leading word ++ key_marks table k)
key_line word first ks table k d h =
    closed_open (after_closed (leading_closed word first) (key_of ks table k d (lexed_parts ks (t.Sign sign.Semicolon ∷ []) h).0))

range_line : (word : Token) → IsLexed word → (rs : List Token) (table : Name) (r : RangeTree) → IsRange rs table r → AreLexed (rs ++ t.Sign sign.Semicolon ∷ []) → Open (leading word ++ range_marks table r)
range_line word first rs table r d h =
    closed_open (after_closed (leading_closed word first) (range_of rs table r d (lexed_parts rs (t.Sign sign.Semicolon ∷ []) h).0))

statement_open : (ts : List Token) (s : StatementTree) → IsStatement ts s → AreLexed ts → Open (statement_marks s)
statement_open _ _ (bind x ts e d) h = after_closed (let_closed x h.1.0) (last_open (t.Sign sign.Semicolon) ts e d h.1.1.1)
statement_open _ _ (get x table ks ts k e is_key is_expr) h =
    after_closed (let_closed x h.1.0) (key_and_open (t.Sign sign.Get) tt (t.Sign sign.Else) tt ks ts table k e is_key is_expr h.1.1.1.1)
statement_open _ _ (need x table ks k d) h =
    after_closed (let_closed x h.1.0) (key_line (t.Sign sign.Need) tt ks table k d h.1.1.1.1)
statement_open _ _ (count x table rs r d) h =
    after_closed (let_closed x h.1.0) (range_line (t.Sign sign.Count) tt rs table r d h.1.1.1.1)
statement_open _ _ (sum x table rs r d) h =
    after_closed (let_closed x h.1.0) (range_line (t.Sign sign.Sum) tt rs table r d h.1.1.1.1)
statement_open _ _ (lacks table ks k d) h = key_line (t.Sign sign.Lacks) tt ks table k d h.1
statement_open _ _ (put table ks ts k e is_key is_expr) h = key_and_open (t.Sign sign.Put) tt (t.Sign sign.Equals) tt ks ts table k e is_key is_expr h.1
statement_open _ _ (insert table ks ts k e is_key is_expr) h = key_and_open (t.Sign sign.Insert) tt (t.Sign sign.Equals) tt ks ts table k e is_key is_expr h.1
statement_open _ _ (delete table ks k d) h = key_line (t.Sign sign.Delete) tt ks table k d h.1
statement_open _ _ (keep table ks k d) h = key_line (t.Sign sign.Keep) tt ks table k d h.1
statement_open _ _ (reply ts e d) h = after_closed (leading_closed (t.Sign sign.Reply) tt) (last_open (t.Sign sign.Semicolon) ts e d h.1)
statement_open _ _ abort h = word_open (t.Sign sign.Abort) tt

-- ---- blocks

ended_closed : (marks : List Mark) → Open marks → Closed (with_semicolon marks)
ended_closed marks h = after_open h (sign_begins (t.Sign sign.Semicolon) (LineEnd ∷ []) (λ rest. refl)) (after_closed (sign_closed sign.Semicolon refl) line_end_closed)

line_closed : (depth : ℕ) (marks : List Mark) → Closed marks → Closed (line depth marks)
line_closed depth marks h = after_closed (indent_closed depth) (after_closed h line_end_closed)

-- ` {`
begun : Closed (Space ∷ Word (t.Sign sign.OpenBlock) ∷ [])
begun = after_closed space_closed (sign_closed sign.OpenBlock refl)

close_line_closed : (depth : ℕ) → Closed (close_line depth)
close_line_closed depth = line_closed depth _ (sign_closed sign.CloseBlock refl)

else_line_closed : (depth : ℕ) → Closed (else_line depth)
else_line_closed depth = line_closed depth _ (after_closed (sign_closed sign.CloseBlock refl) (after_closed (spaced_closed (t.Sign sign.Else) tt) (sign_closed sign.OpenBlock refl)))

else_closed : (depth : ℕ) (marks : List Mark) → Closed marks → Closed (else_marks depth marks)
else_closed depth [] h = nothing_closed
else_closed depth (mark ∷ marks) h = after_closed (else_line_closed depth) h

-- the names and the range of an `each`
listing_closed : (k v : Name) (marks : List Mark) → IsLexed (t.Name k) → IsLexed (t.Name v) → Closed marks
    → Closed (leading (t.Sign sign.Each) ++ Word (t.Name k) ∷ (comma ++ Word (t.Name v) ∷ (spaced (t.Sign sign.In) ++ (marks ++ Space ∷ Word (t.Sign sign.OpenBlock) ∷ []))))
listing_closed k v marks is_key is_value h =
    after_closed (leading_closed (t.Sign sign.Each) tt)
    (after_open (word_open (t.Name k) is_key) (comma_begins _)
    (after_closed (leading_closed (t.Sign sign.Comma) tt)
    (after_open (word_open (t.Name v) is_value) (space_begins _) (after_closed (spaced_closed (t.Sign sign.In) tt) (after_closed h begun)))))

mutual
  statements_closed : (depth : ℕ) (ts : List Token) (b : BlockTree) → IsStatements ts b → AreLexed ts → Closed (block_marks depth b)
  statements_closed depth _ _ nothing h = nothing_closed
  statements_closed depth _ _ (g.IsStatements.more ts us s rest here others) h =
      let both : AreLexed ts × AreLexed us = lexed_parts ts us h in
      after_closed (after_closed (indent_closed depth) (ended_closed (statement_marks s) (statement_open ts s here both.0))) (statements_closed depth us rest others both.1)
  statements_closed depth _ _ (branch xs ts es us test first second rest is_test is_first is_second others) h =
      let a : AreLexed xs × AreLexed (ts ++ (es ++ us)) = lexed_parts xs _ h.1 in
      let b : AreLexed ts × AreLexed (es ++ us) = lexed_parts ts _ a.1 in
      let c : AreLexed es × AreLexed us = lexed_parts es us b.1 in
      after_closed (line_closed depth _ (after_closed (leading_closed (t.Sign sign.If) tt) (after_open (test_open xs test is_test a.0) (space_begins (Word (t.Sign sign.OpenBlock) ∷ [])) begun)))
      (after_closed (block_closed (suc depth) ts first is_first b.0)
      (after_closed (else_closed depth _ (second_closed (suc depth) es second is_second c.0))
      (after_closed (close_line_closed depth) (statements_closed depth us rest others c.1))))
  statements_closed depth _ _ (g.IsStatements.each k v table rs ts us r body rest is_range is_body others) h =
      let a : AreLexed rs × AreLexed (ts ++ us) = lexed_parts rs _ h.1.1.1.1.1 in
      let b : AreLexed ts × AreLexed us = lexed_parts ts us a.1 in
      after_closed (line_closed depth _ (listing_closed k v (range_marks table r) h.1.0 h.1.1.1.0 (range_of rs table r is_range a.0)))
      (after_closed (block_closed (suc depth) ts body is_body b.0) (after_closed (close_line_closed depth) (statements_closed depth us rest others b.1)))

  block_closed : (depth : ℕ) (ts : List Token) (b : BlockTree) → IsBlock ts b → AreLexed ts → Closed (block_marks depth b)
  block_closed depth _ _ (block ts b d) h = statements_closed depth ts b d (lexed_parts ts (t.Sign sign.CloseBlock ∷ []) h.1).0

  second_closed : (depth : ℕ) (ts : List Token) (b : BlockTree) → IsElse ts b → AreLexed ts → Closed (block_marks depth b)
  second_closed depth _ _ missing h = nothing_closed
  second_closed depth _ _ (present ts b d) h = block_closed depth ts b d h.1

-- ---- tables and programs

table_head : (x : Name) (n : ℕ) → IsLexed (t.Name x) → IsLexed (t.Number n) → Open (leading (t.Sign sign.Table) ++ Word (t.Name x) ∷ Space ∷ Word (t.Number n) ∷ [])
table_head x n is_name is_number =
    after_closed (leading_closed (t.Sign sign.Table) tt) (after_open (word_open (t.Name x) is_name) (space_begins (Word (t.Number n) ∷ [])) (after_closed space_closed (word_open (t.Number n) is_number)))

arity_lexed : (n : ℕ) (a : _) → IsArity n a → AreLexed (t.Number (arity_number a) ∷ [])
arity_lexed _ _ g.IsArity.one = (omega arith, tt)
arity_lexed _ _ g.IsArity.two = (omega arith, tt)

table_closed : (ts : List Token) (d : TableDecl) → IsTable ts d → AreLexed ts → Closed (table_marks d)
table_closed _ _ (g.IsTable.plain x n a is) h = ended_closed _ (table_head x (arity_number a) h.1.0 (arity_lexed n a is).0)
table_closed _ _ (grows x n a is) h =
    ended_closed _ (after_open (table_head x (arity_number a) h.1.0 (arity_lexed n a is).0) (space_begins (Word (t.Sign sign.Grow) ∷ [])) (after_closed space_closed (word_open (t.Sign sign.Grow) tt)))

name_open : (ts : List Token) (x : Name) → IsName ts x → AreLexed ts → Open (name_marks x)
name_open _ _ (g.IsName.name x) h = word_open (t.Name x) h.0

-- `) {`
opened : Closed (Word (t.Sign sign.Close) ∷ Space ∷ Word (t.Sign sign.OpenBlock) ∷ [])
opened = after_closed (sign_closed sign.Close refl) begun

params_closed : (ts : List Token) (xs : List Name) → IsParams ts xs → AreLexed ts → Closed (joined_by comma name_marks xs ++ Word (t.Sign sign.Close) ∷ Space ∷ Word (t.Sign sign.OpenBlock) ∷ [])
params_closed _ _ g.IsParams.none h = opened
params_closed _ _ (some ts xs d) h =
    after_open (joined_open IsName (t.Sign sign.Comma) comma name_marks name_open (leading_closed (t.Sign sign.Comma) tt) comma_begins ts xs d h) (sign_begins (t.Sign sign.Close) (Space ∷ Word (t.Sign sign.OpenBlock) ∷ []) (λ rest. refl)) opened

program_closed : (ts : List Token) (p : ProgramTree) → IsProgram ts p → AreLexed ts → Closed (program_marks p)
program_closed _ _ (program x ps ts params body is_params is_block) h =
    let both : AreLexed ps × AreLexed (t.Sign sign.Close ∷ ts) = lexed_parts ps _ h.1.1.1 in
    after_closed (line_closed 0 _ (after_closed (leading_closed (t.Sign sign.Program) tt) (after_open (word_open (t.Name x) h.1.0) (sign_begins (t.Sign sign.Open) _ (λ rest. refl)) (after_closed (sign_closed sign.Open refl) (params_closed ps params is_params both.0)))))
    (after_closed (block_closed 1 ts body is_block both.1.1) (close_line_closed 0))

each_closed : {A : Type 0} (P : List Token → A → Type 0) (marks : A → List Mark) → ((ts : List Token) (x : A) → P ts x → AreLexed ts → Closed (marks x))
    → (ts : List Token) (xs : List A) → Many P ts xs → AreLexed ts → Closed (flat_map marks xs)
each_closed P marks each _ _ none h = nothing_closed
each_closed P marks each _ _ (more ts us x xs d others) h =
    let both : AreLexed ts × AreLexed us = lexed_parts ts us h in
    after_closed (each ts x d both.0) (each_closed P marks each us xs others both.1)

-- what is printed of a draft that a text has
pub draft_closed : (ts : List Token) (d : DraftTree) → IsSet ts d → AreLexed ts → Closed (draft_marks d)
draft_closed _ _ (set ts us tables programs are_tables are_programs) h =
    let both : AreLexed ts × AreLexed us = lexed_parts ts us h in
    after_closed (each_closed IsTable table_marks table_closed ts tables are_tables both.0) (each_closed IsProgram program_marks program_closed us programs are_programs both.1)
