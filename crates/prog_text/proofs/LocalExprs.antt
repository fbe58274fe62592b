-- Readers of expressions, tests, keys and ranges look no further than where they stop.
use Rattle.std.proofs.Common.{ℕ, zero, suc, List, ◌∷◌, Bool, true, false, Ok, sym, ◌∙◌, arith}
use Rattle.prog_tree.specs.Number.{least as least_number, greatest as greatest_number}
use Rattle.prog_tree.specs.Syntax.{Name, ExprTree, Literal, Named, Plus, Minus, Times, One, Two, OneRange, TwoRange}
use Rattle.prog_text.specs.declared.lexing.token.Token.{Token}
use Rattle.prog_text.specs.declared.lexing.token.Sign.TheVariants as sign
use Rattle.prog_text.specs.declared.lexing.token.Token.TheVariants as t
use Rattle.prog_text.specs.Grammar.{IsExpr}
use Rattle.prog_text.specs.Reading.{Reading, ◌>>=◌, after_sign, behind_sign, expect, name_at, negative_at, factor_at, product_from, product_at, sum_from, sum_at, expr_within, expr_at, compared_at, comparison_at, conjunction_at, test_at, key_from, key_at, high_at, range_from, range_at}
use Rattle.prog_text.proofs.Alike.{Local, LocalAt, then_local, done_local, fault_local, matched, unfit, by_first, behind_sign_local, turns_local, separated_local}
use Rattle.prog_text.proofs.Sound.{Sound}
use Rattle.prog_text.proofs.DerivedExprs.{expr_within_sound}
use Rattle.prog_text.proofs.Enough.{comparisons_enough, conjunctions_enough, product_enough, sum_enough, expr_further}
use Rattle.prog_text.proofs.LocalTokens.{sign_local, name_local, relation_local}

-- ---- expressions

negative_first : (u : Token) → LocalAt u (λ ts. negative_at (u ∷ ts))
negative_first (t.Number n) = matched (done_local _)
negative_first u = unfit

module _ (inner : List Token → Reading ExprTree) (inner_sound : (ts : List Token) → Sound IsExpr ts (inner ts)) (inner_local : Local inner) where
  factor_first : (u : Token) → LocalAt u (λ ts. factor_at inner (u ∷ ts))
  unfolding factor_at
  factor_first (t.Number n) = matched (done_local _)
  factor_first (t.Sign sign.Minus) = matched (by_first negative_at (λ shared rest other. omega arith) negative_first)
  factor_first (t.Sign sign.Least) = matched (done_local (Literal least_number))
  factor_first (t.Sign sign.Greatest) = matched (done_local (Literal greatest_number))
  factor_first (t.Name x) = matched (done_local (Named x))
  factor_first (t.Sign sign.Open) = matched (then_local _ inner_local (λ e. then_local _ (sign_local sign.Close) (λ c. done_local e)))
  factor_first u = unfit

  factor_local : Local (factor_at inner)
  unfolding factor_at
  factor_local = by_first (factor_at inner) (λ shared rest other. omega arith) factor_first

  product_from_local : (left : ExprTree) (n : ℕ) → Local (product_from inner n left)
  unfolding product_from
  product_from_local left zero = done_local left
  product_from_local left (suc n) =
      let on = λ (ts : List Token). factor_at inner ts >>= λ right. product_from inner n (Times left right.0) right.1 in
      behind_sign_local sign.Times on (λ ts. Ok (left, ts)) (then_local _ factor_local (λ x. product_from_local (Times left x) n)) (done_local left)

  product_local : Local (product_at inner)
  unfolding product_at
  product_local = then_local _ factor_local (λ x. turns_local (λ n. product_from inner n x) (product_enough inner inner_sound x) (product_from_local x))

  sum_from_local : (left : ExprTree) (n : ℕ) → Local (sum_from inner n left)
  unfolding sum_from
  sum_from_local left zero = done_local left
  sum_from_local left (suc n) =
      let plus = λ (ts : List Token). product_at inner ts >>= λ right. sum_from inner n (Plus left right.0) right.1 in
      let minus = λ (ts : List Token). product_at inner ts >>= λ right. sum_from inner n (Minus left right.0) right.1 in
      let ends = λ (ts : List Token). Ok (left, ts) in
      behind_sign_local sign.Plus plus (λ ts. behind_sign (after_sign sign.Minus ts) minus (ends ts)) (then_local _ product_local (λ x. sum_from_local (Plus left x) n))
      (behind_sign_local sign.Minus minus ends (then_local _ product_local (λ x. sum_from_local (Minus left x) n)) (done_local left))

  sum_local : Local (sum_at inner)
  unfolding sum_at
  sum_local = then_local _ product_local (λ x. turns_local (λ n. sum_from inner n x) (sum_enough inner inner_sound x) (sum_from_local x))

expr_within_local : (n : ℕ) → Local (expr_within n)
unfolding expr_within
expr_within_local zero = fault_local
expr_within_local (suc n) = sum_local (expr_within n) (expr_within_sound n) (expr_within_local n)

pub expr_local : Local expr_at
unfolding expr_at
expr_local = turns_local expr_within (λ n m ts h k. sym (expr_further n ts h) ∙ expr_further m ts k) expr_within_local

-- ---- tests

compared_local : (negated : Bool) → Local (compared_at negated)
unfolding compared_at
compared_local negated =
    then_local _ expr_local
    (λ x. then_local _ relation_local
    (λ r. then_local _ expr_local
    (λ y. done_local (record { negated = negated; left = x; relation = r; right = y }))))

comparison_local : Local comparison_at
unfolding comparison_at
comparison_local = behind_sign_local sign.Not (compared_at true) (compared_at false) (compared_local true) (compared_local false)

pub test_local : Local test_at
test_local = separated_local sign.Or conjunction_at conjunctions_enough (separated_local sign.And comparison_at comparisons_enough comparison_local)

-- ---- keys

key_from_local : (x : ExprTree) → Local (key_from x)
unfolding key_from
key_from_local x =
    let goes_on = λ (ts : List Token). expr_at ts >>= λ second. expect sign.CloseKey second.1 >>= λ closed. Ok (Two x second.0, closed.1) in
    let ends = λ (ts : List Token). expect sign.CloseKey ts >>= λ closed. Ok (One x, closed.1) in
    behind_sign_local sign.Comma goes_on ends
    (then_local _ expr_local (λ y. then_local _ (sign_local sign.CloseKey) (λ c. done_local (Two x y))))
    (then_local _ (sign_local sign.CloseKey) (λ c. done_local (One x)))

-- a table's name, the first expression between the brackets, and what is read behind it
named_local : {B : Type 0} (from : ExprTree → List Token → Reading B) → ((x : ExprTree) → Local (from x))
    → Local {A = Name × B} (λ ts. name_at ts >>= λ table. expect sign.OpenKey table.1 >>= λ opened. expr_at opened.1 >>= λ first. from first.0 first.1 >>= λ x. Ok ((table.0, x.0), x.1))
named_local from h =
    then_local _ name_local
    (λ table. then_local _ (sign_local sign.OpenKey)
    (λ o. then_local _ expr_local
    (λ x. then_local _ (h x)
    (λ k. done_local (table, k)))))

pub key_local : Local key_at
unfolding key_at
key_local = named_local key_from key_from_local

-- ---- ranges

high_local : Local high_at
unfolding high_at
high_local =
    then_local _ (sign_local sign.Dots)
    (λ o. then_local _ expr_local
    (λ x. then_local _ (sign_local sign.CloseKey)
    (λ c. done_local x)))

range_from_local : (x : ExprTree) → Local (range_from x)
unfolding range_from
range_from_local x =
    let goes_on = λ (ts : List Token). expr_at ts >>= λ low. high_at low.1 >>= λ high. Ok (TwoRange x low.0 high.0, high.1) in
    let ends = λ (ts : List Token). high_at ts >>= λ high. Ok (OneRange x high.0, high.1) in
    behind_sign_local sign.Comma goes_on ends
    (then_local _ expr_local (λ y. then_local _ high_local (λ z. done_local (TwoRange x y z))))
    (then_local _ high_local (λ z. done_local (OneRange x z)))

pub range_local : Local range_at
unfolding range_at
range_local = named_local range_from range_from_local
