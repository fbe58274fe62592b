-- Sound, for the readers of expressions, tests, keys and ranges.
use Rattle.std.proofs.Common.{ℕ, zero, suc, List, [], ◌∷◌, ◌++◌, length, Bool, true, false, Option, Ok, refl, sym, subst, append_assoc}
use Rattle.std.proofs.lemmas.List.{append-nil}
use Rattle.prog_tree.specs.Syntax.{Name, ExprTree, Plus, Minus, Times, RelationSign, Less, LessEqual, Greater, GreaterEqual, Equal, NotEqual, ComparisonTree, KeyTree, One, Two, RangeTree, OneRange, TwoRange}
use Rattle.prog_text.specs.declared.lexing.token.Token.{Token}
use Rattle.prog_text.specs.declared.lexing.token.Sign.TheVariants as sign
use Rattle.prog_text.specs.declared.lexing.token.Token.TheVariants as t
use Rattle.prog_text.specs.Canonical.{relation_token}
use Rattle.prog_text.specs.Grammar.{Many, Led, led, Separated, separated, IsFactor, IsProduct, IsExpr, number, negative, least, greatest, bracketed, factor, times, product, plus, minus, IsRelation, IsComparison, IsConjunction, IsTest, IsKey, IsRange}
use Rattle.prog_text.specs.Grammar as g
use Rattle.prog_text.specs.Reading.{Reading, ◌>>=◌, after_sign, expect, name_at, separated_at, negative_at, factor_at, product_from, product_at, sum_from, sum_at, expr_within, expr_at, relation_at, compared_at, comparison_at, conjunction_at, test_at, key_from, key_at, high_at, range_from, range_at}
use Rattle.prog_text.proofs.Sound.{Phrase, behind, Sound, then_sound, token_sound, one_sound, done_sound, fault_sound, sound_map, mapped_sound, IsBehind, behind_sign_sound, IsMore, many_sound, more_ends, more_follows}
use Rattle.prog_text.proofs.OneToken.{finds_sign, alone, one_sign, one_name, one_relation, a_name, an_expr}

-- ---- lists

pub many_push : {A : Type 0} (P : Phrase A) (ts us : List Token) (xs : List A) (x : A) → Many P ts xs → P us x → Many P (ts ++ us) (xs ++ x ∷ [])
many_push P _ us _ x g.Many.none p = subst (λ (vs : List Token). Many P vs (x ∷ [])) (append-nil us) (g.Many.more us [] x [] p g.Many.none)
many_push P _ us _ x (g.Many.more ts vs y ys q m) p =
    subst (λ (ws : List Token). Many P ws (y ∷ ys ++ x ∷ [])) (sym (append_assoc ts vs us)) (g.Many.more ts (vs ++ us) y (ys ++ x ∷ []) q (many_push P vs us ys x m p))

separated_push : {A : Type 0} (u : Token) (P : Phrase A) (ts us : List Token) (xs : List A) (x : A) → Separated u P ts xs → Led u P us x → Separated u P (ts ++ us) (xs ++ x ∷ [])
separated_push u P _ us _ x (separated ts vs y ys q m) p =
    subst (λ (ws : List Token). Separated u P ws (y ∷ ys ++ x ∷ [])) (sym (append_assoc ts vs us)) (separated ts (vs ++ us) y (ys ++ x ∷ []) q (many_push (Led u P) vs us ys x m p))

separated_one : {A : Type 0} (u : Token) (P : Phrase A) (ts : List Token) (x : A) → P ts x → Separated u P ts (x ∷ [])
separated_one u P ts x p = subst (λ (us : List Token). Separated u P us (x ∷ [])) (append-nil ts) (separated ts [] x [] p g.Many.none)

pub separated_sound : {A : Type 0} (P : Phrase A) (u : Token) (after : List Token → Option (List Token)) (read : List Token → Reading A)
    → ((ts : List Token) → IsBehind u ts (after ts)) → ((ts : List Token) → Sound P ts (read ts))
    → (ts : List Token) → Sound (Separated u P) ts (separated_at after read ts)
unfolding separated_at
separated_sound P u after read finds item ts =
    then_sound P (Separated u P) ts (read ts) _ (item ts)
    (λ front rest x d. sound_map (IsMore (Separated u P) (x ∷ [])) (behind front (Separated u P)) rest _ (λ us xs goes_on. goes_on front (separated_one u P front x d))
    (many_sound (Separated u P) (Led u P) u after read (separated_push u P) finds (λ us. sound_map P (behind (u ∷ []) (Led u P)) us (read us) led (item us)) (length rest) (x ∷ []) rest))

-- ---- expressions

negative_sound : (ts : List Token) → Sound (behind (t.Sign sign.Minus ∷ []) IsFactor) ts (negative_at ts)
negative_sound (t.Number n ∷ ts) = record { front = t.Number n ∷ []; parts = refl; phrase = negative n }
negative_sound ts = fault_sound (behind (t.Sign sign.Minus ∷ []) IsFactor) ts (t.Number 0 ∷ []) _ (negative 0)

module _ (inner : List Token → Reading ExprTree) (inner_sound : (ts : List Token) → Sound IsExpr ts (inner ts)) where
  pub factor_sound : (ts : List Token) → Sound IsFactor ts (factor_at inner ts)
  unfolding factor_at
  factor_sound (t.Number n ∷ ts) = record { front = t.Number n ∷ []; parts = refl; phrase = number n }
  factor_sound (t.Sign sign.Minus ∷ ts) = token_sound IsFactor (t.Sign sign.Minus) ts _ (negative_sound ts)
  factor_sound (t.Sign sign.Least ∷ ts) = record { front = t.Sign sign.Least ∷ []; parts = refl; phrase = least }
  factor_sound (t.Sign sign.Greatest ∷ ts) = record { front = t.Sign sign.Greatest ∷ []; parts = refl; phrase = greatest }
  factor_sound (t.Name x ∷ ts) = record { front = t.Name x ∷ []; parts = refl; phrase = g.IsFactor.name x }
  factor_sound (t.Sign sign.Open ∷ ts) =
      let E = behind (t.Sign sign.Open ∷ []) IsFactor in
      token_sound IsFactor (t.Sign sign.Open) ts _
      (then_sound IsExpr E ts (inner ts) _ (inner_sound ts)
      (λ us rest e d. one_sound (behind us E) (alone (t.Sign sign.Close)) tt rest (expect sign.Close rest) _ (one_sign sign.Close rest)
      (λ rest u. done_sound (behind (t.Sign sign.Close ∷ []) (behind us E)) e rest (bracketed us e d))))
  factor_sound ts = fault_sound IsFactor ts (t.Sign sign.Least ∷ []) an_expr least

  product_from_sound : (n : ℕ) (left : ExprTree) (ts : List Token) → Sound (IsMore IsProduct left) ts (product_from inner n left ts)
  unfolding product_from
  product_from_sound zero left ts = more_ends IsProduct left ts
  product_from_sound (suc n) left ts =
      behind_sign_sound (IsMore IsProduct left) (t.Sign sign.Times) ts (after_sign sign.Times ts) _ (Ok (left, ts)) (finds_sign sign.Times ts)
      (λ us. more_follows IsProduct IsFactor (t.Sign sign.Times) left (Times left) us (factor_at inner us) (product_from inner n) (λ ts us right p d. times ts us left right p d) (factor_sound us)
      (λ right. product_from_sound n (Times left right)))
      (more_ends IsProduct left ts)

  pub product_sound : (ts : List Token) → Sound IsProduct ts (product_at inner ts)
  unfolding product_at
  product_sound ts =
      then_sound IsFactor IsProduct ts (factor_at inner ts) _ (factor_sound ts)
      (λ front rest e d. sound_map (IsMore IsProduct e) (behind front IsProduct) rest (product_from inner (length rest) e rest) (λ us x goes_on. goes_on front (factor front e d)) (product_from_sound (length rest) e rest))

  sum_from_sound : (n : ℕ) (left : ExprTree) (ts : List Token) → Sound (IsMore IsExpr left) ts (sum_from inner n left ts)
  unfolding sum_from
  sum_from_sound zero left ts = more_ends IsExpr left ts
  sum_from_sound (suc n) left ts =
      behind_sign_sound (IsMore IsExpr left) (t.Sign sign.Plus) ts (after_sign sign.Plus ts) _ _ (finds_sign sign.Plus ts)
      (λ us. more_follows IsExpr IsProduct (t.Sign sign.Plus) left (Plus left) us (product_at inner us) (sum_from inner n) (λ ts us right p d. plus ts us left right p d) (product_sound us)
      (λ right. sum_from_sound n (Plus left right)))
      (behind_sign_sound (IsMore IsExpr left) (t.Sign sign.Minus) ts (after_sign sign.Minus ts) _ (Ok (left, ts)) (finds_sign sign.Minus ts)
      (λ us. more_follows IsExpr IsProduct (t.Sign sign.Minus) left (Minus left) us (product_at inner us) (sum_from inner n) (λ ts us right p d. minus ts us left right p d) (product_sound us)
      (λ right. sum_from_sound n (Minus left right)))
      (more_ends IsExpr left ts))

  sum_sound : (ts : List Token) → Sound IsExpr ts (sum_at inner ts)
  unfolding sum_at
  sum_sound ts =
      then_sound IsProduct IsExpr ts (product_at inner ts) _ (product_sound ts)
      (λ front rest e d. sound_map (IsMore IsExpr e) (behind front IsExpr) rest (sum_from inner (length rest) e rest) (λ us x goes_on. goes_on front (product front e d)) (sum_from_sound (length rest) e rest))

pub is_expr : IsExpr (t.Sign sign.Least ∷ []) an_expr
is_expr = product (t.Sign sign.Least ∷ []) an_expr (factor (t.Sign sign.Least ∷ []) an_expr least)

pub expr_within_sound : (n : ℕ) (ts : List Token) → Sound IsExpr ts (expr_within n ts)
unfolding expr_within
expr_within_sound zero ts = fault_sound IsExpr ts (t.Sign sign.Least ∷ []) an_expr is_expr
expr_within_sound (suc n) ts = sum_sound (expr_within n) (expr_within_sound n) ts

pub expr_sound : (ts : List Token) → Sound IsExpr ts (expr_at ts)
unfolding expr_at
expr_sound ts = expr_within_sound (length ts) ts

-- ---- tests

is_relation : (r : RelationSign) → IsRelation (relation_token r) r
is_relation Less = g.less
is_relation LessEqual = g.less_equal
is_relation Greater = g.greater
is_relation GreaterEqual = g.greater_equal
is_relation Equal = g.equal
is_relation NotEqual = g.not_equal

-- a comparison behind its `not`, or one without it
abbrev Compares : Bool → Phrase ComparisonTree
Compares true = behind (t.Sign sign.Not ∷ []) IsComparison
Compares false = IsComparison

compares : (negated : Bool) (ts us : List Token) (a b : ExprTree) (r : RelationSign) → IsExpr ts a → IsExpr us b
    → Compares negated (ts ++ relation_token r ∷ us) (record { negated = negated; left = a; relation = r; right = b })
compares true ts us a b r d e = g.negated ts us (relation_token r) a b r d (is_relation r) e
compares false ts us a b r d e = g.IsComparison.plain ts us (relation_token r) a b r d (is_relation r) e

compared_sound : (negated : Bool) (ts : List Token) → Sound (Compares negated) ts (compared_at negated ts)
unfolding compared_at
compared_sound negated ts =
    then_sound IsExpr (Compares negated) ts (expr_at ts) _ (expr_sound ts)
    (λ us rest a da. one_sound (behind us (Compares negated)) relation_token Less rest (relation_at rest) _ (one_relation rest)
    (λ rest r. mapped_sound IsExpr (behind (relation_token r ∷ []) (behind us (Compares negated))) rest (expr_at rest) (λ b. record { negated = negated; left = a; relation = r; right = b })
    (λ vs b db. compares negated us vs a b r da db) (expr_sound rest)))

pub comparison_sound : (ts : List Token) → Sound IsComparison ts (comparison_at ts)
unfolding comparison_at
comparison_sound ts = behind_sign_sound IsComparison (t.Sign sign.Not) ts (after_sign sign.Not ts) (compared_at true) (compared_at false ts) (finds_sign sign.Not ts) (compared_sound true) (compared_sound false ts)

pub conjunction_sound : (ts : List Token) → Sound IsConjunction ts (conjunction_at ts)
conjunction_sound = separated_sound IsComparison (t.Sign sign.And) (after_sign sign.And) comparison_at (finds_sign sign.And) comparison_sound

pub test_sound : (ts : List Token) → Sound IsTest ts (test_at ts)
test_sound = separated_sound IsConjunction (t.Sign sign.Or) (after_sign sign.Or) conjunction_at (finds_sign sign.Or) conjunction_sound

-- ---- keys

-- a key with its table's name
abbrev pub IsKeyOf : Phrase (Name × KeyTree)
IsKeyOf ts x = IsKey ts x.0 x.1

key_from_sound : (table : Name) (fs : List Token) (a : ExprTree) → IsExpr fs a → (ts : List Token) → Sound (λ us k. IsKey (t.Name table ∷ t.Sign sign.OpenKey ∷ (fs ++ us)) table k) ts (key_from a ts)
unfolding key_from
key_from_sound table fs a da ts =
    let E : Phrase KeyTree = λ us k. IsKey (t.Name table ∷ t.Sign sign.OpenKey ∷ (fs ++ us)) table k in
    behind_sign_sound E (t.Sign sign.Comma) ts (after_sign sign.Comma ts) _ _ (finds_sign sign.Comma ts)
    (λ us. then_sound IsExpr (behind (t.Sign sign.Comma ∷ []) E) us (expr_at us) _ (expr_sound us)
    (λ gs rest b db. one_sound (behind gs (behind (t.Sign sign.Comma ∷ []) E)) (alone (t.Sign sign.CloseKey)) tt rest (expect sign.CloseKey rest) _ (one_sign sign.CloseKey rest)
    (λ rest u. done_sound (behind (t.Sign sign.CloseKey ∷ []) (behind gs (behind (t.Sign sign.Comma ∷ []) E))) (Two a b) rest (g.IsKey.two table fs gs a b da db))))
    (one_sound E (alone (t.Sign sign.CloseKey)) tt ts (expect sign.CloseKey ts) _ (one_sign sign.CloseKey ts)
    (λ rest u. done_sound (behind (t.Sign sign.CloseKey ∷ []) E) (One a) rest (g.IsKey.one table fs a da)))

-- a table's name, the first expression between the brackets, and what is read behind it
named_sound : {B : Type 0} (W : Phrase (Name × B)) (from : ExprTree → List Token → Reading B)
    → ((table : Name) (fs : List Token) (a : ExprTree) → IsExpr fs a → (ts : List Token) → Sound (λ us x. W (t.Name table ∷ t.Sign sign.OpenKey ∷ (fs ++ us)) (table, x)) ts (from a ts))
    → (ts : List Token) → Sound W ts (name_at ts >>= λ table. expect sign.OpenKey table.1 >>= λ opened. expr_at opened.1 >>= λ first. from first.0 first.1 >>= λ x. Ok ((table.0, x.0), x.1))
named_sound W from from_sound ts =
    one_sound W t.Name a_name ts (name_at ts) (λ table. expect sign.OpenKey table.1 >>= λ opened. expr_at opened.1 >>= λ first. from first.0 first.1 >>= λ x. Ok ((table.0, x.0), x.1)) (one_name ts)
    (λ rest table. one_sound (behind (t.Name table ∷ []) W) (alone (t.Sign sign.OpenKey)) tt rest (expect sign.OpenKey rest) (λ opened. expr_at opened.1 >>= λ first. from first.0 first.1 >>= λ x. Ok ((table, x.0), x.1)) (one_sign sign.OpenKey rest)
    (λ rest u. then_sound IsExpr (behind (t.Sign sign.OpenKey ∷ []) (behind (t.Name table ∷ []) W)) rest (expr_at rest) (λ first. from first.0 first.1 >>= λ x. Ok ((table, x.0), x.1)) (expr_sound rest)
    (λ fs rest a da. mapped_sound (λ us x. W (t.Name table ∷ t.Sign sign.OpenKey ∷ (fs ++ us)) (table, x)) (behind fs (behind (t.Sign sign.OpenKey ∷ []) (behind (t.Name table ∷ []) W))) rest (from a rest) (λ x. (table, x)) (λ us x d. d) (from_sound table fs a da rest))))

pub key_sound : (ts : List Token) → Sound IsKeyOf ts (key_at ts)
unfolding key_at
key_sound = named_sound IsKeyOf key_from key_from_sound

-- ---- ranges

-- `..`, the high end and the closing bracket
data IsHigh : List Token → ExprTree → Type 0 where
  high : (ts : List Token) (e : ExprTree) → IsExpr ts e → IsHigh (t.Sign sign.Dots ∷ (ts ++ t.Sign sign.CloseKey ∷ [])) e

high_sound : (ts : List Token) → Sound IsHigh ts (high_at ts)
unfolding high_at
high_sound ts =
    one_sound IsHigh (alone (t.Sign sign.Dots)) tt ts (expect sign.Dots ts) _ (one_sign sign.Dots ts)
    (λ rest u. then_sound IsExpr (behind (t.Sign sign.Dots ∷ []) IsHigh) rest (expr_at rest) _ (expr_sound rest)
    (λ us rest e d. one_sound (behind us (behind (t.Sign sign.Dots ∷ []) IsHigh)) (alone (t.Sign sign.CloseKey)) tt rest (expect sign.CloseKey rest) _ (one_sign sign.CloseKey rest)
    (λ rest u. done_sound (behind (t.Sign sign.CloseKey ∷ []) (behind us (behind (t.Sign sign.Dots ∷ []) IsHigh))) e rest (high us e d))))

-- a range with its table's name
abbrev pub IsRangeOf : Phrase (Name × RangeTree)
IsRangeOf ts x = IsRange ts x.0 x.1

one_range : (table : Name) (fs us : List Token) (low top : ExprTree) → IsExpr fs low → IsHigh us top → IsRange (t.Name table ∷ t.Sign sign.OpenKey ∷ (fs ++ us)) table (OneRange low top)
one_range table fs _ low _ d (high us top e) = g.IsRange.one table fs us low top d e

two_range : (table : Name) (fs gs us : List Token) (a low top : ExprTree) → IsExpr fs a → IsExpr gs low → IsHigh us top → IsRange (t.Name table ∷ t.Sign sign.OpenKey ∷ (fs ++ t.Sign sign.Comma ∷ (gs ++ us))) table (TwoRange a low top)
two_range table fs gs _ a low _ d e (high us top f) = g.IsRange.two table fs gs us a low top d e f

range_from_sound : (table : Name) (fs : List Token) (a : ExprTree) → IsExpr fs a → (ts : List Token) → Sound (λ us r. IsRange (t.Name table ∷ t.Sign sign.OpenKey ∷ (fs ++ us)) table r) ts (range_from a ts)
unfolding range_from
range_from_sound table fs a da ts =
    let E : Phrase RangeTree = λ us r. IsRange (t.Name table ∷ t.Sign sign.OpenKey ∷ (fs ++ us)) table r in
    behind_sign_sound E (t.Sign sign.Comma) ts (after_sign sign.Comma ts) _ _ (finds_sign sign.Comma ts)
    (λ us. then_sound IsExpr (behind (t.Sign sign.Comma ∷ []) E) us (expr_at us) _ (expr_sound us)
    (λ gs rest low dl. mapped_sound IsHigh (behind gs (behind (t.Sign sign.Comma ∷ []) E)) rest (high_at rest) (TwoRange a low) (λ us top d. two_range table fs gs us a low top da dl d) (high_sound rest)))
    (mapped_sound IsHigh E ts (high_at ts) (OneRange a) (λ us top d. one_range table fs us a top da d) (high_sound ts))

pub range_sound : (ts : List Token) → Sound IsRangeOf ts (range_at ts)
unfolding range_at
range_sound = named_sound IsRangeOf range_from range_from_sound
