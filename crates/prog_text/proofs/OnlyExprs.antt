-- What is spelled so is read so: expressions, tests, keys and ranges.
use Rattle.std.proofs.Common.{◌≡◌, ℕ, zero, suc, ◌≤◌, List, [], ◌∷◌, ◌++◌, length, length-append, None, Bool, true, false, Ok, refl, ap, sym, ◌∙◌, subst, append_assoc, arith}
use Rattle.prog_tree.specs.Syntax.{Name, ExprTree, Plus, Minus, Times, RelationSign, ComparisonTree, TestTree, KeyTree, One, Two, RangeTree, OneRange, TwoRange}
use Rattle.prog_text.specs.declared.lexing.token.Sign.{Sign}
use Rattle.prog_text.specs.declared.lexing.token.Token.{Token}
use Rattle.prog_text.specs.declared.lexing.token.Sign.TheVariants as sign
use Rattle.prog_text.specs.declared.lexing.token.Token.TheVariants as t
use Rattle.prog_text.specs.Grammar.{IsFactor, IsProduct, IsExpr, number, negative, least, greatest, bracketed, factor, times, product, plus, minus, IsRelation, IsComparison, IsConjunction, IsTest, IsKey, IsRange}
use Rattle.prog_text.specs.Grammar as g
use Rattle.prog_text.specs.Reading.{Reading, ◌>>=◌, after_sign, expect, factor_at, product_from, product_at, sum_from, sum_at, expr_at, relation_at, compared_at, comparison_at, conjunction_at, test_at, key_from, key_at, high_at, range_from, range_at}
use Rattle.prog_text.proofs.Only.{Reads, then_reads, mapped_reads, regrouped, separated_only}
use Rattle.prog_text.proofs.Enough.{expr_is}

-- ---- expressions

-- no operator follows
pub record EndsExpr (rest : List Token) : Type 0 where
  pub no_times : after_sign sign.Times rest ≡ None
  pub no_plus : after_sign sign.Plus rest ≡ None
  pub no_minus : after_sign sign.Minus rest ≡ None

abbrev pub no_operator : {rest : List Token} → after_sign sign.Times rest ≡ None → after_sign sign.Plus rest ≡ None → after_sign sign.Minus rest ≡ None → EndsExpr rest
no_operator a b c = record { no_times = a; no_plus = b; no_minus = c }

product_stops : (n : ℕ) (e : ExprTree) (rest : List Token) → after_sign sign.Times rest ≡ None → Reads (e, rest) (product_from expr_at n e rest)
unfolding product_from
product_stops zero e rest h = refl
product_stops (suc n) e rest h = rw h refl

sum_stops : (n : ℕ) (e : ExprTree) (rest : List Token) → EndsExpr rest → Reads (e, rest) (sum_from expr_at n e rest)
unfolding sum_from
sum_stops zero e rest h = refl
sum_stops (suc n) e rest h = rw (h.no_plus, h.no_minus) refl

-- What goes on behind `ts` in this way, is read so behind `ts`.
abbrev GoesOn : (ℕ → ExprTree → List Token → Reading ExprTree) → ExprTree → List Token → ExprTree × List Token → Type 0
GoesOn from e rest y = (n : ℕ) → length rest ≤ n → Reads y (from n e rest)

-- Of operands that `read` reads, one more behind its sign, where the reading goes on so.
operand_goes_on : (read : List Token → Reading ExprTree) (from : ℕ → ExprTree → List Token → Reading ExprTree) (v : Sign) (f : ExprTree → ExprTree) (us rest : List Token) (a b : ExprTree) (y : ExprTree × List Token)
    → ((n : ℕ) (ts : List Token) → from (suc n) a (t.Sign v ∷ ts) ≡ (read ts >>= λ right. from n (f right.0) right.1))
    → Reads (b, rest) (read (us ++ rest)) → GoesOn from (f b) rest y → GoesOn from a (t.Sign v ∷ (us ++ rest)) y
operand_goes_on read from v f us rest a b y is h k zero le = absurd (omega (arith, le))
operand_goes_on read from v f us rest a b y is h k (suc n) le =
    rw (is n (us ++ rest)) (then_reads (b, rest) y (read (us ++ rest)) (λ right. from n (f right.0) right.1) h (k n (omega (arith, le, length-append us rest))))

-- the first operand, and what goes on behind it
operand_begins : (read : List Token → Reading ExprTree) (from : ℕ → ExprTree → List Token → Reading ExprTree) (ts rest : List Token) (e : ExprTree) (y : ExprTree × List Token)
    → Reads (e, rest) (read (ts ++ rest)) → GoesOn from e rest y → Reads y (read (ts ++ rest) >>= λ first. from (length first.1) first.0 first.1)
operand_begins read from ts rest e y h k = then_reads (e, rest) y (read (ts ++ rest)) (λ first. from (length first.1) first.0 first.1) h (k (length rest) (omega arith))

bracket_reads : (ts rest : List Token) (e : ExprTree) → Reads (e, t.Sign sign.Close ∷ rest) (sum_at expr_at (ts ++ t.Sign sign.Close ∷ rest)) → Reads (e, rest) (factor_at expr_at ((t.Sign sign.Open ∷ (ts ++ t.Sign sign.Close ∷ [])) ++ rest))
unfolding factor_at
bracket_reads ts rest e h =
    then_reads (e, t.Sign sign.Close ∷ rest) (e, rest) (expr_at ((ts ++ t.Sign sign.Close ∷ []) ++ rest)) (λ e. expect sign.Close e.1 >>= λ closed. Ok (e.0, closed.1))
    (regrouped (e, t.Sign sign.Close ∷ rest) expr_at ts (t.Sign sign.Close ∷ []) rest (subst (Reads (e, t.Sign sign.Close ∷ rest)) (sym (expr_is (ts ++ t.Sign sign.Close ∷ rest))) h)) refl

mutual
  unfolding factor_at product_from product_at sum_from sum_at

  factor_only : (ts : List Token) (e : ExprTree) → IsFactor ts e → (rest : List Token) → Reads (e, rest) (factor_at expr_at (ts ++ rest))
  factor_only _ _ (number n) rest = refl
  factor_only _ _ (negative n) rest = refl
  factor_only _ _ least rest = refl
  factor_only _ _ greatest rest = refl
  factor_only _ _ (g.IsFactor.name x) rest = refl
  factor_only _ _ (bracketed ts e d) rest =
      bracket_reads ts rest e (sum_only ts e d (t.Sign sign.Close ∷ rest) (e, t.Sign sign.Close ∷ rest) refl (λ n le. sum_stops n e (t.Sign sign.Close ∷ rest) (no_operator refl refl refl)))

  product_only : (ts : List Token) (e : ExprTree) → IsProduct ts e → (rest : List Token) (y : ExprTree × List Token) → GoesOn (product_from expr_at) e rest y → Reads y (product_at expr_at (ts ++ rest))
  product_only _ _ (factor ts e d) rest y k = operand_begins (factor_at expr_at) (product_from expr_at) ts rest e y (factor_only ts e d rest) k
  product_only _ _ (times ts us a b d f) rest y k =
      regrouped y (product_at expr_at) ts (t.Sign sign.Times ∷ us) rest
      (product_only ts a d (t.Sign sign.Times ∷ (us ++ rest)) y
      (operand_goes_on (factor_at expr_at) (product_from expr_at) sign.Times (Times a) us rest a b y (λ n ts. refl) (factor_only us b f rest) k))

  sum_only : (ts : List Token) (e : ExprTree) → IsExpr ts e → (rest : List Token) (y : ExprTree × List Token) → after_sign sign.Times rest ≡ None → GoesOn (sum_from expr_at) e rest y → Reads y (sum_at expr_at (ts ++ rest))
  sum_only _ _ (product ts e d) rest y alone k = operand_begins (product_at expr_at) (sum_from expr_at) ts rest e y (product_only ts e d rest (e, rest) (λ n le. product_stops n e rest alone)) k
  sum_only _ _ (plus ts us a b d f) rest y alone k =
      regrouped y (sum_at expr_at) ts (t.Sign sign.Plus ∷ us) rest
      (sum_only ts a d (t.Sign sign.Plus ∷ (us ++ rest)) y refl
      (operand_goes_on (product_at expr_at) (sum_from expr_at) sign.Plus (Plus a) us rest a b y (λ n ts. refl) (product_only us b f rest (b, rest) (λ n le. product_stops n b rest alone)) k))
  sum_only _ _ (minus ts us a b d f) rest y alone k =
      regrouped y (sum_at expr_at) ts (t.Sign sign.Minus ∷ us) rest
      (sum_only ts a d (t.Sign sign.Minus ∷ (us ++ rest)) y refl
      (operand_goes_on (product_at expr_at) (sum_from expr_at) sign.Minus (Minus a) us rest a b y (λ n ts. refl) (product_only us b f rest (b, rest) (λ n le. product_stops n b rest alone)) k))

-- what is spelled so is read so, where no operator follows
pub expr_only : (ts : List Token) (e : ExprTree) → IsExpr ts e → (rest : List Token) → EndsExpr rest → Reads (e, rest) (expr_at (ts ++ rest))
expr_only ts e d rest h = subst (Reads (e, rest)) (sym (expr_is (ts ++ rest))) (sum_only ts e d rest (e, rest) h.no_times (λ n le. sum_stops n e rest h))

pub expr_reads : (ts after rest : List Token) (e : ExprTree) → IsExpr ts e → EndsExpr (after ++ rest) → Reads (e, after ++ rest) (expr_at ((ts ++ after) ++ rest))
expr_reads ts after rest e d h = regrouped (e, after ++ rest) expr_at ts after rest (expr_only ts e d (after ++ rest) h)

-- ---- tests

relation_ends : (u : Token) (r : RelationSign) → IsRelation u r → (rest : List Token) → EndsExpr (u ∷ rest)
relation_ends _ _ g.less rest = no_operator refl refl refl
relation_ends _ _ other rest = no_operator refl refl refl

relation_only : (u : Token) (r : RelationSign) → IsRelation u r → (rest : List Token) → Reads (r, rest) (relation_at (u ∷ rest))
relation_only _ _ g.less rest = refl
relation_only _ _ other rest = refl

compared_only : (negated : Bool) (ts us : List Token) (u : Token) (a b : ExprTree) (r : RelationSign) → IsExpr ts a → IsRelation u r → IsExpr us b → (rest : List Token) → EndsExpr rest
    → Reads (record { negated = negated; left = a; relation = r; right = b }, rest) (compared_at negated ((ts ++ u ∷ us) ++ rest))
unfolding compared_at
compared_only negated ts us u a b r d s e rest h =
    let c : ComparisonTree = record { negated = negated; left = a; relation = r; right = b } in
    then_reads (a, u ∷ (us ++ rest)) (c, rest) (expr_at ((ts ++ u ∷ us) ++ rest))
    (λ left. relation_at left.1 >>= λ relation. expr_at relation.1 >>= λ right. Ok (record { negated = negated; left = left.0; relation = relation.0; right = right.0 }, right.1))
    (expr_reads ts (u ∷ us) rest a d (relation_ends u r s (us ++ rest)))
    (then_reads (r, us ++ rest) (c, rest) (relation_at (u ∷ (us ++ rest))) (λ relation. expr_at relation.1 >>= λ right. Ok (record { negated = negated; left = a; relation = relation.0; right = right.0 }, right.1))
    (relation_only u r s (us ++ rest))
    (mapped_reads b rest (expr_at (us ++ rest)) (λ right. record { negated = negated; left = a; relation = r; right = right }) (expr_only us b e rest h)))

-- what holds of each list that begins with a token of a factor, holds of each that begins with an expression
module _ (Q : List Token → Type 0) (at_number : (n : ℕ) (ts : List Token) → Q (t.Number n ∷ ts)) (at_minus : (ts : List Token) → Q (t.Sign sign.Minus ∷ ts)) (at_least : (ts : List Token) → Q (t.Sign sign.Least ∷ ts))
    (at_greatest : (ts : List Token) → Q (t.Sign sign.Greatest ∷ ts)) (at_name : (x : Name) (ts : List Token) → Q (t.Name x ∷ ts)) (at_bracket : (ts : List Token) → Q (t.Sign sign.Open ∷ ts)) where
  factor_begins : (ts : List Token) (e : ExprTree) → IsFactor ts e → (rest : List Token) → Q (ts ++ rest)
  factor_begins _ _ (number n) rest = at_number n rest
  factor_begins _ _ (negative n) rest = at_minus (t.Number n ∷ rest)
  factor_begins _ _ least rest = at_least rest
  factor_begins _ _ greatest rest = at_greatest rest
  factor_begins _ _ (g.IsFactor.name x) rest = at_name x rest
  factor_begins _ _ (bracketed ts e d) rest = at_bracket ((ts ++ t.Sign sign.Close ∷ []) ++ rest)

  product_begins_so : (ts : List Token) (e : ExprTree) → IsProduct ts e → (rest : List Token) → Q (ts ++ rest)
  product_begins_so _ _ (factor ts e d) rest = factor_begins ts e d rest
  product_begins_so _ _ (times ts us a b d f) rest = subst Q (sym (append_assoc ts (t.Sign sign.Times ∷ us) rest)) (product_begins_so ts a d (t.Sign sign.Times ∷ (us ++ rest)))

  pub expr_begins : (ts : List Token) (e : ExprTree) → IsExpr ts e → (rest : List Token) → Q (ts ++ rest)
  expr_begins _ _ (product ts e d) rest = product_begins_so ts e d rest
  expr_begins _ _ (plus ts us a b d f) rest = subst Q (sym (append_assoc ts (t.Sign sign.Plus ∷ us) rest)) (expr_begins ts a d (t.Sign sign.Plus ∷ (us ++ rest)))
  expr_begins _ _ (minus ts us a b d f) rest = subst Q (sym (append_assoc ts (t.Sign sign.Minus ∷ us) rest)) (expr_begins ts a d (t.Sign sign.Minus ∷ (us ++ rest)))

no_not : (ts : List Token) (e : ExprTree) → IsExpr ts e → (rest : List Token) → after_sign sign.Not (ts ++ rest) ≡ None
no_not = expr_begins (λ ts. after_sign sign.Not ts ≡ None) (λ n ts. refl) (λ ts. refl) (λ ts. refl) (λ ts. refl) (λ x ts. refl) (λ ts. refl)

comparison_only : (ts : List Token) (c : ComparisonTree) → IsComparison ts c → (rest : List Token) → EndsExpr rest → Reads (c, rest) (comparison_at (ts ++ rest))
unfolding comparison_at
comparison_only _ _ (g.IsComparison.plain ts us u a b r d s e) rest h =
    let first : after_sign sign.Not ((ts ++ u ∷ us) ++ rest) ≡ None = ap (after_sign sign.Not) (append_assoc ts (u ∷ us) rest) ∙ no_not ts a d (u ∷ (us ++ rest)) in
    rw first (compared_only false ts us u a b r d s e rest h)
comparison_only _ _ (g.negated ts us u a b r d s e) rest h = compared_only true ts us u a b r d s e rest h

-- neither an operator follows nor `and`
pub record EndsConjunction (rest : List Token) : Type 0 where
  pub expr : EndsExpr rest
  pub no_and : after_sign sign.And rest ≡ None

conjunction_only : (ts : List Token) (cs : List ComparisonTree) → IsConjunction ts cs → (rest : List Token) → EndsConjunction rest → Reads (cs, rest) (conjunction_at (ts ++ rest))
conjunction_only ts cs d rest h = separated_only IsComparison (t.Sign sign.And) EndsExpr (after_sign sign.And) comparison_at (λ ts. refl) (λ ts. no_operator refl refl refl) comparison_only ts cs d rest h.expr h.no_and

pub test_only : (ts : List Token) (x : TestTree) → IsTest ts x → (rest : List Token) → EndsConjunction rest → after_sign sign.Or rest ≡ None → Reads (x, rest) (test_at (ts ++ rest))
test_only = separated_only IsConjunction (t.Sign sign.Or) EndsConjunction (after_sign sign.Or) conjunction_at (λ ts. refl) (λ ts. record { expr = no_operator refl refl refl; no_and = refl }) conjunction_only

-- ---- keys

-- a table's name, the first expression between the brackets, and what is read behind it
table_reads : {B : Type 0} (from : ExprTree → List Token → Reading B) (table : Name) (ts after rest : List Token) (a : ExprTree) (x : B) → IsExpr ts a → EndsExpr (after ++ rest) → Reads (x, rest) (from a (after ++ rest))
    → Reads {A = Name × B} ((table, x), rest) (expr_at ((ts ++ after) ++ rest) >>= λ first. from first.0 first.1 >>= λ x. Ok ((table, x.0), x.1))
table_reads from table ts after rest a x d ends h =
    then_reads (a, after ++ rest) ((table, x), rest) (expr_at ((ts ++ after) ++ rest)) (λ first. from first.0 first.1 >>= λ x. Ok ((table, x.0), x.1)) (expr_reads ts after rest a d ends)
    (mapped_reads x rest (from a (after ++ rest)) (λ x. (table, x)) h)

key_ends : (a : ExprTree) (rest : List Token) → Reads (One a, rest) (key_from a (t.Sign sign.CloseKey ∷ rest))
unfolding key_from
key_ends a rest = refl

key_goes_on : (us : List Token) (a b : ExprTree) → IsExpr us b → (rest : List Token) → Reads (Two a b, rest) (key_from a (t.Sign sign.Comma ∷ ((us ++ t.Sign sign.CloseKey ∷ []) ++ rest)))
unfolding key_from
key_goes_on us a b d rest =
    then_reads (b, t.Sign sign.CloseKey ∷ rest) (Two a b, rest) (expr_at ((us ++ t.Sign sign.CloseKey ∷ []) ++ rest)) (λ second. expect sign.CloseKey second.1 >>= λ closed. Ok (Two a second.0, closed.1)) (expr_reads us (t.Sign sign.CloseKey ∷ []) rest b d (no_operator refl refl refl)) refl

pub key_only : (ts : List Token) (table : Name) (k : KeyTree) → IsKey ts table k → (rest : List Token) → Reads ((table, k), rest) (key_at (ts ++ rest))
unfolding key_at
key_only _ _ _ (g.IsKey.one table ts a d) rest = table_reads key_from table ts (t.Sign sign.CloseKey ∷ []) rest a (One a) d (no_operator refl refl refl) (key_ends a rest)
key_only _ _ _ (g.IsKey.two table ts us a b d e) rest = table_reads key_from table ts (t.Sign sign.Comma ∷ (us ++ t.Sign sign.CloseKey ∷ [])) rest a (Two a b) d (no_operator refl refl refl) (key_goes_on us a b e rest)

pub key_reads : (ks after rest : List Token) (table : Name) (k : KeyTree) → IsKey ks table k → Reads ((table, k), after ++ rest) (key_at ((ks ++ after) ++ rest))
key_reads ks after rest table k d = regrouped ((table, k), after ++ rest) key_at ks after rest (key_only ks table k d (after ++ rest))

-- ---- ranges

high_only : (us : List Token) (e : ExprTree) → IsExpr us e → (rest : List Token) → Reads (e, rest) (high_at (t.Sign sign.Dots ∷ ((us ++ t.Sign sign.CloseKey ∷ []) ++ rest)))
unfolding high_at
high_only us e d rest =
    then_reads (e, t.Sign sign.CloseKey ∷ rest) (e, rest) (expr_at ((us ++ t.Sign sign.CloseKey ∷ []) ++ rest)) (λ high. expect sign.CloseKey high.1 >>= λ closed. Ok (high.0, closed.1)) (expr_reads us (t.Sign sign.CloseKey ∷ []) rest e d (no_operator refl refl refl)) refl

range_ends : (us : List Token) (low top : ExprTree) → IsExpr us top → (rest : List Token) → Reads (OneRange low top, rest) (range_from low (t.Sign sign.Dots ∷ ((us ++ t.Sign sign.CloseKey ∷ []) ++ rest)))
unfolding range_from
range_ends us low top d rest = mapped_reads top rest (high_at (t.Sign sign.Dots ∷ ((us ++ t.Sign sign.CloseKey ∷ []) ++ rest))) (OneRange low) (high_only us top d rest)

range_goes_on : (us vs : List Token) (a low top : ExprTree) → IsExpr us low → IsExpr vs top → (rest : List Token)
    → Reads (TwoRange a low top, rest) (range_from a (t.Sign sign.Comma ∷ ((us ++ t.Sign sign.Dots ∷ (vs ++ t.Sign sign.CloseKey ∷ [])) ++ rest)))
unfolding range_from
range_goes_on us vs a low top d e rest =
    let behind : List Token = vs ++ t.Sign sign.CloseKey ∷ [] in
    then_reads (low, t.Sign sign.Dots ∷ (behind ++ rest)) (TwoRange a low top, rest) (expr_at ((us ++ t.Sign sign.Dots ∷ behind) ++ rest)) (λ low. high_at low.1 >>= λ high. Ok (TwoRange a low.0 high.0, high.1))
    (expr_reads us (t.Sign sign.Dots ∷ behind) rest low d (no_operator refl refl refl))
    (mapped_reads top rest (high_at (t.Sign sign.Dots ∷ (behind ++ rest))) (TwoRange a low) (high_only vs top e rest))

pub range_only : (ts : List Token) (table : Name) (r : RangeTree) → IsRange ts table r → (rest : List Token) → Reads ((table, r), rest) (range_at (ts ++ rest))
unfolding range_at
range_only _ _ _ (g.IsRange.one table ts us low top d e) rest =
    table_reads range_from table ts (t.Sign sign.Dots ∷ (us ++ t.Sign sign.CloseKey ∷ [])) rest low (OneRange low top) d (no_operator refl refl refl) (range_ends us low top e rest)
range_only _ _ _ (g.IsRange.two table ts us vs a low top d e f) rest =
    table_reads range_from table ts (t.Sign sign.Comma ∷ (us ++ t.Sign sign.Dots ∷ (vs ++ t.Sign sign.CloseKey ∷ []))) rest a (TwoRange a low top) d (no_operator refl refl refl) (range_goes_on us vs a low top e f rest)
