-- What is printed of a phrase spells it, and is no deeper than what was read.
use Rattle.std.proofs.Common.{◌≡◌, ◌∙◌, ℕ, suc, List, [], ◌∷◌, ◌++◌, Bool, true, false, refl, sym, ap, subst, arith, append_assoc}
use Rattle.std.specs.List.{flat_map}
use Rattle.std.proofs.lemmas.List.Elements.{filter_map-append}
use Rattle.prog_tree.specs.Syntax.{Name, ExprTree, RelationSign, TestTree, KeyTree, RangeTree, ListingTree, StatementTree, BlockTree, BlockEnd, Then, Branch, Each}
use Rattle.prog_tree.specs.declared.table.Arity.{Arity}
use Rattle.prog_text.specs.declared.lexing.token.Token.{Token}
use Rattle.prog_text.specs.declared.lexing.token.Sign.TheVariants as sign
use Rattle.prog_text.specs.declared.lexing.token.Token.TheVariants as t
use Rattle.prog_text.specs.Grammar.{Many, none, more, Led, led, Separated, separated, IsExpr, IsRelation, IsComparison, plain, negated, IsConjunction, IsTest, IsKey, IsRange, IsStatement, bind, get, need, count, sum, lacks, put, insert, delete, keep, reply, abort, IsStatements, nothing, branch, IsBlock, block, IsElse, missing, present, IsArity, IsTable, grows, IsName, IsParams, some, IsProgram, program, IsSet, set}
use Rattle.prog_text.specs.Grammar as g
use Rattle.prog_text.specs.Canonical.{Mark, Word, Space, LineEnd, words_of, spaced, expr_marks, relation_token, comparison_marks, each_behind, joined_by, conjunction_marks, test_marks, comma, key_marks, range_marks, statement_marks, with_semicolon, statement_line, if_line, each_line, close_line, else_marks, block_marks, arity_number, table_marks, name_marks, program_marks, draft_marks}
use Rattle.prog_text.proofs.Lighter.{Lighter, nothing_lighter, same_lighter, behind_lighter, lighter_append, sides_lighter, ended_lighter}
use Rattle.prog_text.proofs.SpelledAgain.{words_append, side_words, expr_spelled, expr_lighter}

-- these tokens spell the phrase too, and are no deeper than those that were read
pub record Again {A : Type 0} (P : List Token → A → Type 0) (us ts : List Token) (x : A) : Type 0 where
  pub spelled : P us x
  pub lighter : Lighter us ts

again_by : {A : Type 0} (P : List Token → A → Type 0) (us vs ts : List Token) (x : A) → us ≡ vs → Again P vs ts x → Again P us ts x
again_by P us vs ts x e h = subst (λ (ws : List Token). Again P ws ts x) (sym e) h

expr_again : (ts : List Token) (e : ExprTree) → IsExpr ts e → Again IsExpr (words_of (expr_marks e)) ts e
expr_again ts e d = record { spelled = expr_spelled e; lighter = expr_lighter ts e d }

-- ---- lists

-- a phrase whose marks are read again
abbrev AreAgain : {A : Type 0} → (List Token → A → Type 0) → (A → List Mark) → Type 0
AreAgain {A = A} P marks = (ts : List Token) (x : A) → P ts x → Again P (words_of (marks x)) ts x

each_again : {A : Type 0} (P : List Token → A → Type 0) (marks : A → List Mark) → AreAgain P marks → (ts : List Token) (xs : List A) → Many P ts xs → Again (Many P) (words_of (flat_map marks xs)) ts xs
each_again P marks each _ _ none = record { spelled = none; lighter = nothing_lighter }
each_again P marks each _ _ (more ts us x xs d others) =
    let first : Again P (words_of (marks x)) ts x = each ts x d in
    let rest : Again (Many P) (words_of (flat_map marks xs)) us xs = each_again P marks each us xs others in
    again_by (Many P) _ _ (ts ++ us) (x ∷ xs) (words_append (marks x) (flat_map marks xs))
    (record { spelled = more _ _ x xs first.spelled rest.spelled; lighter = lighter_append first.lighter rest.lighter })

-- behind a separator
led_again : {A : Type 0} (P : List Token → A → Type 0) (u : Token) (separator : List Mark) (marks : A → List Mark) → ((others : List Mark) → words_of (separator ++ others) ≡ u ∷ words_of others) → AreAgain P marks
    → AreAgain (Led u P) (λ x. separator ++ marks x)
led_again P u separator marks shows each _ _ (led ts x d) =
    let here : Again P (words_of (marks x)) ts x = each ts x d in
    again_by (Led u P) _ _ (u ∷ ts) x (shows (marks x)) (record { spelled = led _ x here.spelled; lighter = behind_lighter u here.lighter })

joined_again : {A : Type 0} (P : List Token → A → Type 0) (u : Token) (separator : List Mark) (marks : A → List Mark) → ((others : List Mark) → words_of (separator ++ others) ≡ u ∷ words_of others) → AreAgain P marks
    → AreAgain (Separated u P) (joined_by separator marks)
joined_again P u separator marks shows each _ _ (separated ts us x xs d others) =
    let first : Again P (words_of (marks x)) ts x = each ts x d in
    let rest : Again (Many (Led u P)) (words_of (each_behind separator marks xs)) us xs = each_again (Led u P) (λ x. separator ++ marks x) (led_again P u separator marks shows each) us xs others in
    again_by (Separated u P) _ _ (ts ++ us) (x ∷ xs) (words_append (marks x) (each_behind separator marks xs))
    (record { spelled = separated _ _ x xs first.spelled rest.spelled; lighter = lighter_append first.lighter rest.lighter })

-- ---- tests

relation_is : (u : Token) (r : RelationSign) → IsRelation u r → u ≡ relation_token r
relation_is _ _ g.less = refl
relation_is _ _ is = refl

-- two sides with a sign between them that compares, also behind a `not`
compared_again : (n : Bool) (front : List Token) → ((ts us : List Token) (u : Token) (a b : ExprTree) (r : RelationSign) → IsExpr ts a → IsRelation u r → IsExpr us b → IsComparison (front ++ (ts ++ u ∷ us)) (record { negated = n; left = a; relation = r; right = b }))
    → (ts us : List Token) (u : Token) (a b : ExprTree) (r : RelationSign) → IsExpr ts a → IsRelation u r → IsExpr us b
    → Again IsComparison (front ++ words_of (expr_marks a ++ (spaced (relation_token r) ++ expr_marks b))) (front ++ (ts ++ u ∷ us)) (record { negated = n; left = a; relation = r; right = b })
compared_again n front form ts us u a b r left compares right =
    let first : Again IsExpr (words_of (expr_marks a)) ts a = expr_again ts a left in
    let second : Again IsExpr (words_of (expr_marks b)) us b = expr_again us b right in
    let same : u ≡ relation_token r = relation_is u r compares in
    let shown : IsRelation (relation_token r) r = subst (λ (v : Token). IsRelation v r) same compares in
    again_by IsComparison _ _ _ _ (ap (λ (ws : List Token). front ++ ws) (side_words (expr_marks a) (expr_marks b) (relation_token r))) (record {
      spelled = form _ _ (relation_token r) a b r first.spelled shown second.spelled;
      lighter = rw same (lighter_append (same_lighter front) (sides_lighter (relation_token r) first.lighter second.lighter));
    })

comparison_again : AreAgain IsComparison comparison_marks
comparison_again _ _ (g.IsComparison.plain ts us u a b r left compares right) =
    compared_again false [] g.IsComparison.plain ts us u a b r left compares right
comparison_again _ _ (negated ts us u a b r left compares right) =
    compared_again true (t.Sign sign.Not ∷ []) negated ts us u a b r left compares right

conjunction_again : AreAgain IsConjunction conjunction_marks
conjunction_again = joined_again IsComparison (t.Sign sign.And) (spaced (t.Sign sign.And)) comparison_marks (λ others. refl) comparison_again

test_again : AreAgain IsTest test_marks
test_again = joined_again IsConjunction (t.Sign sign.Or) (spaced (t.Sign sign.Or)) conjunction_marks (λ others. refl) conjunction_again

-- ---- keys and ranges

abbrev key_end : List Token
key_end = t.Sign sign.CloseKey ∷ []

-- two parts with a comma between them, and the closing sign
two_words : (a b : List Mark) → words_of ((a ++ (comma ++ b)) ++ Word (t.Sign sign.CloseKey) ∷ []) ≡ words_of a ++ t.Sign sign.Comma ∷ (words_of b ++ key_end)
two_words a b = simp (filter_map-append, append_assoc)

ends_words : (low high : List Mark) → words_of ((low ++ Word (t.Sign sign.Dots) ∷ high) ++ Word (t.Sign sign.CloseKey) ∷ []) ≡ words_of low ++ t.Sign sign.Dots ∷ (words_of high ++ key_end)
ends_words low high = simp (filter_map-append, append_assoc)

three_words : (a low high : List Mark) → words_of ((a ++ (comma ++ (low ++ Word (t.Sign sign.Dots) ∷ high))) ++ Word (t.Sign sign.CloseKey) ∷ []) ≡ words_of a ++ t.Sign sign.Comma ∷ (words_of low ++ t.Sign sign.Dots ∷ (words_of high ++ key_end))
three_words a low high = simp (filter_map-append, append_assoc)

-- the name of a table and what stands inside its key
abbrev keyed : Name → List Token → List Token
keyed table ts = t.Name table ∷ t.Sign sign.OpenKey ∷ ts

keyed_lighter : (table : Name) (us ts : List Token) → Lighter us ts → Lighter (keyed table us) (keyed table ts)
keyed_lighter table us ts h = behind_lighter (t.Name table) (behind_lighter (t.Sign sign.OpenKey) h)

key_again : (ts : List Token) (table : Name) (k : KeyTree) → IsKey ts table k → Again (λ us k. IsKey us table k) (words_of (key_marks table k)) ts k
key_again _ _ k (g.IsKey.one table ts a d) =
    let first : Again IsExpr (words_of (expr_marks a)) ts a = expr_again ts a d in
    again_by (λ us k. IsKey us table k) _ _ _ k (ap (keyed table) (words_append (expr_marks a) (Word (t.Sign sign.CloseKey) ∷ []))) (record {
      spelled = g.IsKey.one table _ a first.spelled;
      lighter = keyed_lighter table _ _ (ended_lighter (t.Sign sign.CloseKey) first.lighter);
    })
key_again _ _ k (g.IsKey.two table ts us a b d e) =
    let first : Again IsExpr (words_of (expr_marks a)) ts a = expr_again ts a d in
    let second : Again IsExpr (words_of (expr_marks b)) us b = expr_again us b e in
    again_by (λ us k. IsKey us table k) _ _ _ k (ap (keyed table) (two_words (expr_marks a) (expr_marks b))) (record {
      spelled = g.IsKey.two table _ _ a b first.spelled second.spelled;
      lighter = keyed_lighter table _ _ (sides_lighter (t.Sign sign.Comma) first.lighter (ended_lighter (t.Sign sign.CloseKey) second.lighter));
    })

range_again : (ts : List Token) (table : Name) (r : RangeTree) → IsRange ts table r → Again (λ us r. IsRange us table r) (words_of (range_marks table r)) ts r
range_again _ _ r (g.IsRange.one table ts us low high d e) =
    let first : Again IsExpr (words_of (expr_marks low)) ts low = expr_again ts low d in
    let second : Again IsExpr (words_of (expr_marks high)) us high = expr_again us high e in
    again_by (λ us r. IsRange us table r) _ _ _ r (ap (keyed table) (ends_words (expr_marks low) (expr_marks high))) (record {
      spelled = g.IsRange.one table _ _ low high first.spelled second.spelled;
      lighter = keyed_lighter table _ _ (sides_lighter (t.Sign sign.Dots) first.lighter (ended_lighter (t.Sign sign.CloseKey) second.lighter));
    })
range_again _ _ r (g.IsRange.two table ts us vs a low high c d e) =
    let whole : Again IsExpr (words_of (expr_marks a)) ts a = expr_again ts a c in
    let first : Again IsExpr (words_of (expr_marks low)) us low = expr_again us low d in
    let second : Again IsExpr (words_of (expr_marks high)) vs high = expr_again vs high e in
    again_by (λ us r. IsRange us table r) _ _ _ r (ap (keyed table) (three_words (expr_marks a) (expr_marks low) (expr_marks high))) (record {
      spelled = g.IsRange.two table _ _ _ a low high whole.spelled first.spelled second.spelled;
      lighter = keyed_lighter table _ _ (sides_lighter (t.Sign sign.Comma) whole.lighter (sides_lighter (t.Sign sign.Dots) first.lighter (ended_lighter (t.Sign sign.CloseKey) second.lighter)));
    })

-- ---- statements

abbrev statement_end : List Token
statement_end = t.Sign sign.Semicolon ∷ []

abbrev line_rest : List Mark
line_rest = Word (t.Sign sign.Semicolon) ∷ LineEnd ∷ []

-- two parts with a token between them, to the end of the line
last_words : (a b : List Mark) (u : Token) → words_of ((a ++ (spaced u ++ b)) ++ line_rest) ≡ words_of a ++ u ∷ (words_of b ++ statement_end)
last_words a b u = simp (filter_map-append, append_assoc)

-- A phrase behind some words, to the end of the line.
ended_again : {A : Type 0} (P : List Token → A → Type 0) (front : List Token) (marks : List Mark) (ts : List Token) (x : A) (s : StatementTree)
    → Again P (words_of marks) ts x → ((us : List Token) → P us x → IsStatement (front ++ (us ++ statement_end)) s)
    → Again IsStatement (front ++ words_of (with_semicolon marks)) (front ++ (ts ++ statement_end)) s
ended_again P front marks ts x s here form =
    again_by IsStatement _ _ _ s (ap (λ (us : List Token). front ++ us) (words_append marks line_rest)) (record {
      spelled = form _ here.spelled;
      lighter = lighter_append (same_lighter front) (ended_lighter (t.Sign sign.Semicolon) here.lighter);
    })

-- A key, a token and an expression behind some words, to the end of the line.
key_and_again : (front : List Token) (u : Token) (table : Name) (ks ts : List Token) (k : KeyTree) (e : ExprTree) (s : StatementTree)
    → IsKey ks table k → IsExpr ts e → ((ks ts : List Token) → IsKey ks table k → IsExpr ts e → IsStatement (front ++ (ks ++ u ∷ (ts ++ statement_end))) s)
    → Again IsStatement (front ++ words_of (with_semicolon (key_marks table k ++ (spaced u ++ expr_marks e)))) (front ++ (ks ++ u ∷ (ts ++ statement_end))) s
key_and_again front u table ks ts k e s is_key d form =
    let key : Again (λ us k. IsKey us table k) (words_of (key_marks table k)) ks k = key_again ks table k is_key in
    let value : Again IsExpr (words_of (expr_marks e)) ts e = expr_again ts e d in
    again_by IsStatement _ _ _ s (ap (λ (us : List Token). front ++ us) (last_words (key_marks table k) (expr_marks e) u)) (record {
      spelled = form _ _ key.spelled value.spelled;
      lighter = lighter_append (same_lighter front) (sides_lighter u key.lighter (ended_lighter (t.Sign sign.Semicolon) value.lighter));
    })

-- such statements with a key, a range or an expression alone
key_line : (front : List Token) (table : Name) (ks : List Token) (k : KeyTree) (s : StatementTree) → IsKey ks table k → ((us : List Token) → IsKey us table k → IsStatement (front ++ (us ++ statement_end)) s)
    → Again IsStatement (front ++ words_of (with_semicolon (key_marks table k))) (front ++ (ks ++ statement_end)) s
key_line front table ks k s d form =
    ended_again (λ us k. IsKey us table k) front (key_marks table k) ks k s (key_again ks table k d) form

range_line : (front : List Token) (table : Name) (rs : List Token) (r : RangeTree) (s : StatementTree) → IsRange rs table r → ((us : List Token) → IsRange us table r → IsStatement (front ++ (us ++ statement_end)) s)
    → Again IsStatement (front ++ words_of (with_semicolon (range_marks table r))) (front ++ (rs ++ statement_end)) s
range_line front table rs r s d form =
    ended_again (λ us r. IsRange us table r) front (range_marks table r) rs r s (range_again rs table r d) form

expr_line : (front ts : List Token) (e : ExprTree) (s : StatementTree) → IsExpr ts e → ((us : List Token) → IsExpr us e → IsStatement (front ++ (us ++ statement_end)) s)
    → Again IsStatement (front ++ words_of (with_semicolon (expr_marks e))) (front ++ (ts ++ statement_end)) s
expr_line front ts e s d form = ended_again IsExpr front (expr_marks e) ts e s (expr_again ts e d) form

-- the words before what is bound to a name
abbrev bound : Name → List Token → List Token
bound x ts = t.Sign sign.Let ∷ t.Name x ∷ t.Sign sign.Equals ∷ ts

statement_again : AreAgain IsStatement (λ s. with_semicolon (statement_marks s))
statement_again _ s (bind x ts e d) = expr_line (bound x []) ts e s d (λ us. bind x us e)
statement_again _ s (get x table ks ts k e is_key d) =
    key_and_again (bound x (t.Sign sign.Get ∷ [])) (t.Sign sign.Else) table ks ts k e s is_key d (λ us vs. get x table us vs k e)
statement_again _ s (need x table ks k d) =
    key_line (bound x (t.Sign sign.Need ∷ [])) table ks k s d (λ us. need x table us k)
statement_again _ s (count x table rs r d) =
    range_line (bound x (t.Sign sign.Count ∷ [])) table rs r s d (λ us. count x table us r)
statement_again _ s (sum x table rs r d) =
    range_line (bound x (t.Sign sign.Sum ∷ [])) table rs r s d (λ us. sum x table us r)
statement_again _ s (lacks table ks k d) =
    key_line (t.Sign sign.Lacks ∷ []) table ks k s d (λ us. lacks table us k)
statement_again _ s (put table ks ts k e is_key d) =
    key_and_again (t.Sign sign.Put ∷ []) (t.Sign sign.Equals) table ks ts k e s is_key d (λ us vs. put table us vs k e)
statement_again _ s (insert table ks ts k e is_key d) =
    key_and_again (t.Sign sign.Insert ∷ []) (t.Sign sign.Equals) table ks ts k e s is_key d (λ us vs. insert table us vs k e)
statement_again _ s (delete table ks k d) =
    key_line (t.Sign sign.Delete ∷ []) table ks k s d (λ us. delete table us k)
statement_again _ s (keep table ks k d) =
    key_line (t.Sign sign.Keep ∷ []) table ks k s d (λ us. keep table us k)
statement_again _ s (reply ts e d) = expr_line (t.Sign sign.Reply ∷ []) ts e s d (λ us. reply us e)
statement_again _ _ abort = record { spelled = abort; lighter = same_lighter (t.Sign sign.Abort ∷ statement_end) }

-- ---- blocks

-- the tokens of a second block behind the closing sign of the first
abbrev second_words : ℕ → BlockTree → List Token
second_words depth BlockEnd = []
second_words depth b = t.Sign sign.Else ∷ t.Sign sign.OpenBlock ∷ (words_of (block_marks (suc depth) b) ++ t.Sign sign.CloseBlock ∷ [])

record SecondAgain (depth : ℕ) (ts : List Token) (b : BlockTree) : Type 0 where
  spelled : IsElse (second_words depth b) b
  lighter : Lighter (t.Sign sign.CloseBlock ∷ second_words depth b) (t.Sign sign.CloseBlock ∷ ts)

nothing_is : (ts : List Token) → IsStatements ts BlockEnd → ts ≡ []
nothing_is _ nothing = refl

-- an empty second block is left out
abbrev left_out : List Token → List Token
left_out ts = t.Sign sign.Else ∷ t.Sign sign.OpenBlock ∷ (ts ++ t.Sign sign.CloseBlock ∷ [])

no_second : Lighter (t.Sign sign.CloseBlock ∷ []) (t.Sign sign.CloseBlock ∷ left_out [])
no_second = record {
  fits = λ m n j k a b h. (omega (arith, h.0), omega arith, tt);
  brackets = λ m n a. omega arith;
  operators = λ j k a. omega arith;
}

present_again : (depth : ℕ) (ts : List Token) (b : BlockTree) → second_words depth b ≡ left_out (words_of (block_marks (suc depth) b)) → Again IsStatements (words_of (block_marks (suc depth) b)) ts b → SecondAgain depth (left_out ts) b
present_again depth ts b is h = record {
  spelled = rw is (present _ b (block _ b h.spelled));
  lighter = rw is (behind_lighter (t.Sign sign.CloseBlock) (behind_lighter (t.Sign sign.Else) (behind_lighter (t.Sign sign.OpenBlock) (ended_lighter (t.Sign sign.CloseBlock) h.lighter))));
}

second_again : (depth : ℕ) (ts : List Token) (b : BlockTree) → IsStatements ts b → Again IsStatements (words_of (block_marks (suc depth) b)) ts b → SecondAgain depth (left_out ts) b
second_again depth ts BlockEnd d h = record {
  spelled = missing;
  lighter = subst (λ (us : List Token). Lighter (t.Sign sign.CloseBlock ∷ []) (t.Sign sign.CloseBlock ∷ left_out us)) (sym (nothing_is ts d)) no_second;
}
second_again depth ts (Then s rest) d h = present_again depth ts (Then s rest) refl h
second_again depth ts (Branch test first second rest) d h =
    present_again depth ts (Branch test first second rest) refl h
second_again depth ts (Each l body rest) d h = present_again depth ts (Each l body rest) refl h

-- what stands behind the first block, from its closing sign on
behind_words : (depth : ℕ) (b : BlockTree) (rest : List Mark) → words_of (else_marks depth (block_marks (suc depth) b) ++ (close_line depth ++ rest)) ≡ t.Sign sign.CloseBlock ∷ (second_words depth b ++ words_of rest)
behind_words depth BlockEnd rest = refl
behind_words depth (Then s others) rest = simp (filter_map-append, append_assoc)
behind_words depth (Branch test a b others) rest = simp (filter_map-append, append_assoc)
behind_words depth (Each l body others) rest =
    let second : List Mark = block_marks (suc depth) (Each l body others) in
    ap (λ (ts : List Token). t.Sign sign.CloseBlock ∷ t.Sign sign.Else ∷ t.Sign sign.OpenBlock ∷ ts)
    (words_append second (close_line depth ++ rest) ∙ sym (append_assoc (words_of second) (t.Sign sign.CloseBlock ∷ []) (words_of rest)))

if_words : (depth : ℕ) (test : TestTree) (rest : List Mark) → words_of (if_line depth test ++ rest) ≡ t.Sign sign.If ∷ (words_of (test_marks test) ++ t.Sign sign.OpenBlock ∷ words_of rest)
if_words depth test rest = simp (filter_map-append, append_assoc)

branch_words : (depth : ℕ) (test : TestTree) (a b rest : BlockTree)
    → words_of (block_marks depth (Branch test a b rest)) ≡ t.Sign sign.If ∷ (words_of (test_marks test) ++ ((t.Sign sign.OpenBlock ∷ (words_of (block_marks (suc depth) a) ++ t.Sign sign.CloseBlock ∷ [])) ++ (second_words depth b ++ words_of (block_marks depth rest))))
branch_words depth test a b rest =
    let others : List Mark = else_marks depth (block_marks (suc depth) b) ++ (close_line depth ++ block_marks depth rest) in
    let first : List Token = words_of (block_marks (suc depth) a) in
    let second : List Token = second_words depth b ++ words_of (block_marks depth rest) in
    let behind : words_of others ≡ t.Sign sign.CloseBlock ∷ second = behind_words depth b (block_marks depth rest) in
    if_words depth test (block_marks (suc depth) a ++ others)
    ∙ ap (λ (ts : List Token). t.Sign sign.If ∷ (words_of (test_marks test) ++ t.Sign sign.OpenBlock ∷ ts))
    (words_append (block_marks (suc depth) a) others ∙ ap (λ (ts : List Token). first ++ ts) behind ∙ sym (append_assoc first (t.Sign sign.CloseBlock ∷ []) second))

both_blocks : (ws vs ts es : List Token) → Lighter ws ts → Lighter (t.Sign sign.CloseBlock ∷ vs) (t.Sign sign.CloseBlock ∷ es) → Lighter ((t.Sign sign.OpenBlock ∷ (ws ++ t.Sign sign.CloseBlock ∷ [])) ++ vs) ((t.Sign sign.OpenBlock ∷ (ts ++ t.Sign sign.CloseBlock ∷ [])) ++ es)
both_blocks ws vs ts es first second = rw (append_assoc ws (t.Sign sign.CloseBlock ∷ []) vs, append_assoc ts (t.Sign sign.CloseBlock ∷ []) es) (behind_lighter (t.Sign sign.OpenBlock) (lighter_append first second))

-- a part behind two others
in_line : (xs ws vs us xt wt vt ut : List Token) → Lighter xs xt → Lighter (ws ++ vs) (wt ++ vt) → Lighter us ut → Lighter (t.Sign sign.If ∷ (xs ++ (ws ++ (vs ++ us)))) (t.Sign sign.If ∷ (xt ++ (wt ++ (vt ++ ut))))
in_line xs ws vs us xt wt vt ut first blocks rest = rw (← append_assoc ws vs us, ← append_assoc wt vt ut) (behind_lighter (t.Sign sign.If) (lighter_append first (lighter_append blocks rest)))

branch_again : (depth : ℕ) (xs ts es us : List Token) (test : TestTree) (first second rest : BlockTree) → Again IsTest (words_of (test_marks test)) xs test → Again IsStatements (words_of (block_marks (suc depth) first)) ts first → SecondAgain depth es second
    → Again IsStatements (words_of (block_marks depth rest)) us rest → Again IsStatements (words_of (block_marks depth (Branch test first second rest))) (t.Sign sign.If ∷ (xs ++ ((t.Sign sign.OpenBlock ∷ (ts ++ t.Sign sign.CloseBlock ∷ [])) ++ (es ++ us)))) (Branch test first second rest)
branch_again depth xs ts es us test first second rest a b c d =
    again_by IsStatements _ _ _ _ (branch_words depth test first second rest) (record {
      spelled = branch _ _ _ _ test first second rest a.spelled (block _ first b.spelled) c.spelled d.spelled;
      lighter = in_line _ (t.Sign sign.OpenBlock ∷ (words_of (block_marks (suc depth) first) ++ t.Sign sign.CloseBlock ∷ [])) (second_words depth second) _ xs (t.Sign sign.OpenBlock ∷ (ts ++ t.Sign sign.CloseBlock ∷ [])) es us a.lighter (both_blocks _ _ ts es b.lighter c.lighter) d.lighter;
    })

-- the tokens of an `each` before its range
abbrev each_front : ListingTree → List Token → List Token
each_front l ts = t.Sign sign.Each ∷ t.Name l.key ∷ t.Sign sign.Comma ∷ t.Name l.value ∷ t.Sign sign.In ∷ ts

-- the end of a line that opens a block
opened_words : (marks rest : List Mark) → words_of (((marks ++ Space ∷ Word (t.Sign sign.OpenBlock) ∷ []) ++ LineEnd ∷ []) ++ rest) ≡ words_of marks ++ t.Sign sign.OpenBlock ∷ words_of rest
opened_words marks rest =
    let opening : List Mark = Space ∷ Word (t.Sign sign.OpenBlock) ∷ [] in
    ap words_of (append_assoc (marks ++ opening) (LineEnd ∷ []) rest ∙ append_assoc marks opening (LineEnd ∷ rest)) ∙ words_append marks (opening ++ LineEnd ∷ rest)

each_line_words : (depth : ℕ) (l : ListingTree) (rest : List Mark) → words_of (each_line depth l ++ rest) ≡ each_front l (words_of (range_marks l.table l.range) ++ t.Sign sign.OpenBlock ∷ words_of rest)
each_line_words depth l rest = ap (each_front l) (opened_words (range_marks l.table l.range) rest)

each_words : (depth : ℕ) (l : ListingTree) (body rest : BlockTree)
    → words_of (block_marks depth (Each l body rest)) ≡ each_front l (words_of (range_marks l.table l.range) ++ ((t.Sign sign.OpenBlock ∷ (words_of (block_marks (suc depth) body) ++ t.Sign sign.CloseBlock ∷ [])) ++ words_of (block_marks depth rest)))
each_words depth l body rest =
    let others : List Mark = close_line depth ++ block_marks depth rest in
    let inside : List Token = words_of (block_marks (suc depth) body) in
    each_line_words depth l (block_marks (suc depth) body ++ others)
    ∙ ap (λ (ts : List Token). each_front l (words_of (range_marks l.table l.range) ++ t.Sign sign.OpenBlock ∷ ts))
    (words_append (block_marks (suc depth) body) others ∙ sym (append_assoc inside (t.Sign sign.CloseBlock ∷ []) (words_of (block_marks depth rest))))

each_lighter : (l : ListingTree) {us ts : List Token} → Lighter us ts → Lighter (each_front l us) (each_front l ts)
each_lighter l h =
    behind_lighter (t.Sign sign.Each) (behind_lighter (t.Name l.key) (behind_lighter (t.Sign sign.Comma) (behind_lighter (t.Name l.value) (behind_lighter (t.Sign sign.In) h))))

turns_again : (depth : ℕ) (rs ts us : List Token) (l : ListingTree) (body rest : BlockTree) → Again (λ us r. IsRange us l.table r) (words_of (range_marks l.table l.range)) rs l.range → Again IsStatements (words_of (block_marks (suc depth) body)) ts body
    → Again IsStatements (words_of (block_marks depth rest)) us rest → Again IsStatements (words_of (block_marks depth (Each l body rest))) (each_front l (rs ++ ((t.Sign sign.OpenBlock ∷ (ts ++ t.Sign sign.CloseBlock ∷ [])) ++ us))) (Each l body rest)
turns_again depth rs ts us l body rest a b c =
    again_by IsStatements _ _ _ _ (each_words depth l body rest) (record {
      spelled = g.IsStatements.each l.key l.value l.table _ _ _ l.range body rest a.spelled (block _ body b.spelled) c.spelled;
      lighter = each_lighter l (lighter_append a.lighter (lighter_append (behind_lighter (t.Sign sign.OpenBlock) (ended_lighter (t.Sign sign.CloseBlock) b.lighter)) c.lighter));
    })

line_words : (depth : ℕ) (s : StatementTree) (rest : List Mark) → words_of (statement_line depth s ++ rest) ≡ words_of (with_semicolon (statement_marks s)) ++ words_of rest
line_words depth s rest = words_append (with_semicolon (statement_marks s)) rest

statements_again : (depth : ℕ) (ts : List Token) (b : BlockTree) → IsStatements ts b → Again IsStatements (words_of (block_marks depth b)) ts b
statements_again depth _ _ nothing = record { spelled = nothing; lighter = nothing_lighter }
statements_again depth _ _ (g.IsStatements.more ts us s rest here others) =
    let first : Again IsStatement (words_of (with_semicolon (statement_marks s))) ts s = statement_again ts s here in
    let behind : Again IsStatements (words_of (block_marks depth rest)) us rest = statements_again depth us rest others in
    again_by IsStatements _ _ (ts ++ us) (Then s rest) (line_words depth s (block_marks depth rest)) (record {
      spelled = g.IsStatements.more _ _ s rest first.spelled behind.spelled;
      lighter = lighter_append first.lighter behind.lighter;
    })
statements_again depth _ _ (branch xs _ _ us test _ _ rest is_test (block ts first is_first) missing others) =
    branch_again depth xs ts [] us test first BlockEnd rest (test_again xs test is_test) (statements_again (suc depth) ts first is_first)
    (record { spelled = missing; lighter = same_lighter (t.Sign sign.CloseBlock ∷ []) }) (statements_again depth us rest others)
statements_again depth _ _ (branch xs _ _ us test _ _ rest is_test (block ts first is_first) (present _ _ (block vs second is_second)) others) =
    branch_again depth xs ts (left_out vs) us test first second rest (test_again xs test is_test) (statements_again (suc depth) ts first is_first)
    (second_again depth vs second is_second (statements_again (suc depth) vs second is_second)) (statements_again depth us rest others)
statements_again depth _ _ (g.IsStatements.each k v table rs _ us r _ rest is_range (block ts body inside) others) =
    turns_again depth rs ts us (record { key = k; value = v; table = table; range = r }) body rest (range_again rs table r is_range) (statements_again (suc depth) ts body inside) (statements_again depth us rest others)

block_again : (depth : ℕ) (ts : List Token) (b : BlockTree) → IsBlock ts b → Again IsBlock (t.Sign sign.OpenBlock ∷ (words_of (block_marks depth b) ++ t.Sign sign.CloseBlock ∷ [])) ts b
block_again depth _ _ (block ts b d) =
    let inside : Again IsStatements (words_of (block_marks depth b)) ts b = statements_again depth ts b d in
    record { spelled = block _ b inside.spelled; lighter = behind_lighter (t.Sign sign.OpenBlock) (ended_lighter (t.Sign sign.CloseBlock) inside.lighter) }

-- ---- tables and programs

arity_is : (n : ℕ) (a : Arity) → IsArity n a → n ≡ arity_number a
arity_is _ _ g.IsArity.one = refl
arity_is _ _ g.IsArity.two = refl

-- tokens that are printed as they were read
read_again : {A : Type 0} (P : List Token → A → Type 0) (us ts : List Token) (x : A) → us ≡ ts → P ts x → Again P us ts x
read_again P us ts x e d = again_by P us ts ts x e (record { spelled = d; lighter = same_lighter ts })

table_again : AreAgain IsTable table_marks
table_again _ d (g.IsTable.plain x n a is) =
    read_again IsTable _ _ d (ap (λ (m : ℕ). t.Sign sign.Table ∷ t.Name x ∷ t.Number m ∷ t.Sign sign.Semicolon ∷ []) (sym (arity_is n a is))) (g.IsTable.plain x n a is)
table_again _ d (grows x n a is) =
    read_again IsTable _ _ d (ap (λ (m : ℕ). t.Sign sign.Table ∷ t.Name x ∷ t.Number m ∷ t.Sign sign.Grow ∷ t.Sign sign.Semicolon ∷ []) (sym (arity_is n a is))) (grows x n a is)

name_again : AreAgain IsName name_marks
name_again _ _ (g.IsName.name x) = read_again IsName _ _ x refl (g.IsName.name x)

params_again : AreAgain IsParams (joined_by comma name_marks)
params_again _ _ g.IsParams.none = record { spelled = g.IsParams.none; lighter = nothing_lighter }
params_again _ _ (some ts xs d) =
    let names : Again (Separated (t.Sign sign.Comma) IsName) (words_of (joined_by comma name_marks xs)) ts xs = joined_again IsName (t.Sign sign.Comma) comma name_marks (λ others. refl) name_again ts xs d in
    record { spelled = some _ xs names.spelled; lighter = names.lighter }

abbrev headed : Name → List Token → List Token
headed x ts = t.Sign sign.Program ∷ t.Name x ∷ t.Sign sign.Open ∷ ts

program_words : (params body : List Mark) → words_of ((params ++ Word (t.Sign sign.Close) ∷ Space ∷ Word (t.Sign sign.OpenBlock) ∷ []) ++ LineEnd ∷ [] ++ (body ++ close_line 0)) ≡ words_of params ++ t.Sign sign.Close ∷ t.Sign sign.OpenBlock ∷ (words_of body ++ t.Sign sign.CloseBlock ∷ [])
program_words params body = simp (filter_map-append, append_assoc)

program_again : AreAgain IsProgram program_marks
program_again _ p (program x ps ts params body is_params is_block) =
    let a : Again IsParams (words_of (joined_by comma name_marks params)) ps params = params_again ps params is_params in
    let b : Again IsBlock (t.Sign sign.OpenBlock ∷ (words_of (block_marks 1 body) ++ t.Sign sign.CloseBlock ∷ [])) ts body = block_again 1 ts body is_block in
    again_by IsProgram _ _ _ p (ap (headed x) (program_words (joined_by comma name_marks params) (block_marks 1 body))) (record {
      spelled = program x _ _ params body a.spelled b.spelled;
      lighter = behind_lighter (t.Sign sign.Program) (behind_lighter (t.Name x) (behind_lighter (t.Sign sign.Open) (sides_lighter (t.Sign sign.Close) a.lighter b.lighter)));
    })

-- the canonical tokens of a draft spell it, and are no deeper than any that do
pub set_again : AreAgain IsSet draft_marks
set_again _ d (set ts us tables programs are_tables are_programs) =
    let a : Again (Many IsTable) (words_of (flat_map table_marks tables)) ts tables = each_again IsTable table_marks table_again ts tables are_tables in
    let b : Again (Many IsProgram) (words_of (flat_map program_marks programs)) us programs = each_again IsProgram program_marks program_again us programs are_programs in
    again_by IsSet _ _ (ts ++ us) d (words_append (flat_map table_marks tables) (flat_map program_marks programs))
    (record { spelled = set _ _ tables programs a.spelled b.spelled; lighter = lighter_append a.lighter b.lighter })
