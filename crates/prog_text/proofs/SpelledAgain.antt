-- What is printed of an expression spells it, and is no deeper than what was read.
use Rattle.std.proofs.Common.{◌≡◌, ◌∙◌, ℕ, ℤ, zero, suc, pos, negsuc, List, [], ◌∷◌, ◌++◌, Bool, true, false, ◌||◌, if◌then◌else◌, refl, sym, ap, subst, arith, true≢false}
use Rattle.std.specs.Ordering.{int_eq}
use Rattle.std.proofs.lemmas.Bool.Decides.{Decides-int_eq}
use Rattle.std.proofs.lemmas.List.Elements.{filter_map-append}
use Rattle.prog_tree.specs.Number.{least as least_number, greatest as greatest_number}
use Rattle.prog_tree.specs.Syntax.{ExprTree, Literal, Named, Plus, Minus, Times}
use Rattle.prog_text.specs.declared.lexing.token.Token.{Token}
use Rattle.prog_text.specs.declared.lexing.token.Sign.TheVariants as sign
use Rattle.prog_text.specs.declared.lexing.token.Token.TheVariants as t
use Rattle.prog_text.specs.Grammar.{IsFactor, number, negative, least, greatest, name, bracketed, IsProduct, factor, times, IsExpr, product, plus, minus}
use Rattle.prog_text.specs.Limits.{brackets_after}
use Rattle.prog_text.specs.Canonical.{Mark, Word, mark_token, words_of, spaced, is_sum, is_product, in_brackets_if, expr_marks}
use Rattle.prog_text.proofs.Lighter.{behind_by, Lighter, same_lighter, behind_lighter, lighter_trans, sides_lighter, ended_lighter, Balanced, balanced_append, balanced_brackets, bare_lighter}

-- ---- tokens of marks

pub words_append : (xs ys : List Mark) → words_of (xs ++ ys) ≡ words_of xs ++ words_of ys
words_append xs ys = filter_map-append mark_token xs ys

bracket_words : (marks : List Mark) → words_of (in_brackets_if true marks) ≡ t.Sign sign.Open ∷ (words_of marks ++ t.Sign sign.Close ∷ [])
bracket_words marks = ap (λ (ts : List Token). t.Sign sign.Open ∷ ts) (words_append marks (Word (t.Sign sign.Close) ∷ []))

-- two sides and the sign between them
pub side_words : (a b : List Mark) (u : Token) → words_of (a ++ (spaced u ++ b)) ≡ words_of a ++ u ∷ words_of b
side_words a b u = words_append a (spaced u ++ b)

-- ---- what is printed spells the expression

-- it is a product where it is no sum, and a factor where it has no operator
record IsSpelled (ts : List Token) (e : ExprTree) : Type 0 where
  whole : IsExpr ts e
  as_product : is_sum e ≡ false → IsProduct ts e
  as_factor : (is_sum e || is_product e) ≡ false → IsFactor ts e

factor_spelled : (ts : List Token) (e : ExprTree) → IsFactor ts e → IsSpelled ts e
factor_spelled ts e d = record { whole = product ts e (factor ts e d); as_product = λ h. factor ts e d; as_factor = λ h. d }

-- one factor or the other, by a test
either_spelled : (z end : ℤ) (special plain : List Mark) (b : Bool) → int_eq z end ≡ b → IsFactor (words_of special) (Literal end) → IsFactor (words_of plain) (Literal z) → IsFactor (words_of (if b then special else plain)) (Literal z)
either_spelled z end special plain true h first second =
    subst (λ (y : ℤ). IsFactor (words_of special) (Literal y)) (sym ((Decides-int_eq z end).0 h)) first
either_spelled z end special plain false h first second = second

bracket_spelled : (marks : List Mark) (e : ExprTree) → IsExpr (words_of marks) e → IsFactor (words_of (in_brackets_if true marks)) e
bracket_spelled marks e d = subst (λ (ts : List Token). IsFactor ts e) (sym (bracket_words marks)) (bracketed (words_of marks) e d)

product_spelled : (b : Bool) (marks : List Mark) (e : ExprTree) → is_sum e ≡ b → IsSpelled (words_of marks) e → IsProduct (words_of (in_brackets_if b marks)) e
product_spelled true marks e h s = factor _ e (bracket_spelled marks e s.whole)
product_spelled false marks e h s = s.as_product h

operand_spelled : (b : Bool) (marks : List Mark) (e : ExprTree) → (is_sum e || is_product e) ≡ b → IsSpelled (words_of marks) e → IsFactor (words_of (in_brackets_if b marks)) e
operand_spelled true marks e h s = bracket_spelled marks e s.whole
operand_spelled false marks e h s = s.as_factor h

-- two sides with a sign of a sum between them
sum_spelled : (u : Token) (a b e : ExprTree) → is_sum e ≡ true → IsSpelled (words_of (expr_marks a)) a → IsSpelled (words_of (expr_marks b)) b → ((ts us : List Token) → IsExpr ts a → IsProduct us b → IsExpr (ts ++ u ∷ us) e)
    → IsSpelled (words_of (expr_marks a ++ (spaced u ++ in_brackets_if (is_sum b) (expr_marks b)))) e
sum_spelled u a b e sums left right form =
    let side : List Mark = in_brackets_if (is_sum b) (expr_marks b) in
    record {
      whole =
          subst (λ (ts : List Token). IsExpr ts e) (sym (side_words (expr_marks a) side u)) (form _ _ left.whole (product_spelled (is_sum b) (expr_marks b) b refl right));
      as_product = λ h. absurd (true≢false (sym sums ∙ h));
      as_factor = λ h. absurd (true≢false (ap (λ x. x || is_product e) (sym sums) ∙ h));
    }

spelled : (e : ExprTree) → IsSpelled (words_of (expr_marks e)) e
spelled (Literal (pos n)) =
    factor_spelled _ _ (either_spelled (pos n) greatest_number (Word (t.Sign sign.Greatest) ∷ []) (Word (t.Number n) ∷ []) _ refl greatest (number n))
spelled (Literal (negsuc n)) =
    factor_spelled _ _ (either_spelled (negsuc n) least_number (Word (t.Sign sign.Least) ∷ []) (Word (t.Sign sign.Minus) ∷ Word (t.Number (suc n)) ∷ []) _ refl least (negative (suc n)))
spelled (Named x) = factor_spelled _ _ (name x)
spelled (Plus a b) =
    sum_spelled (t.Sign sign.Plus) a b (Plus a b) refl (spelled a) (spelled b) (λ ts us. plus ts us a b)
spelled (Minus a b) =
    sum_spelled (t.Sign sign.Minus) a b (Minus a b) refl (spelled a) (spelled b) (λ ts us. minus ts us a b)
spelled (Times a b) =
    let left : List Mark = in_brackets_if (is_sum a) (expr_marks a) in
    let right : List Mark = in_brackets_if (is_sum b || is_product b) (expr_marks b) in
    let d : IsProduct (words_of left ++ t.Sign sign.Times ∷ words_of right) (Times a b) =
    times _ _ a b (product_spelled (is_sum a) (expr_marks a) a refl (spelled a)) (operand_spelled (is_sum b || is_product b) (expr_marks b) b refl (spelled b)) in
    let e : IsProduct (words_of (expr_marks (Times a b))) (Times a b) = subst (λ (ts : List Token). IsProduct ts (Times a b)) (sym (side_words left right (t.Sign sign.Times))) d in
    record { whole = product _ (Times a b) e; as_product = λ h. e; as_factor = λ h. absurd (true≢false h) }

-- the canonical tokens spell the expression
pub expr_spelled : (e : ExprTree) → IsExpr (words_of (expr_marks e)) e
expr_spelled e = (spelled e).whole

-- ---- brackets of an expression

flat : (u : Token) → ((n : ℕ) → brackets_after u n ≡ n) → {ts : List Token} → Balanced ts → Balanced (u ∷ ts)
flat u stays {ts = ts} h = record { same = λ n. ap (λ m. behind_by brackets_after m ts) (stays n) ∙ h.same n }

nothing_balanced : Balanced []
nothing_balanced = record { same = λ n. refl }

mutual
  factor_balanced : (ts : List Token) (e : ExprTree) → IsFactor ts e → Balanced ts
  factor_balanced _ _ (number n) = flat (t.Number n) (λ m. refl) nothing_balanced
  factor_balanced _ _ (negative n) = flat (t.Sign sign.Minus) (λ m. refl) (flat (t.Number n) (λ m. refl) nothing_balanced)
  factor_balanced _ _ least = flat (t.Sign sign.Least) (λ m. refl) nothing_balanced
  factor_balanced _ _ greatest = flat (t.Sign sign.Greatest) (λ m. refl) nothing_balanced
  factor_balanced _ _ (name x) = flat (t.Name x) (λ m. refl) nothing_balanced
  factor_balanced _ _ (bracketed ts e d) = balanced_brackets ts (expr_balanced ts e d)

  product_balanced : (ts : List Token) (e : ExprTree) → IsProduct ts e → Balanced ts
  product_balanced _ _ (factor ts e d) = factor_balanced ts e d
  product_balanced _ _ (times ts us a b left right) = balanced_append (product_balanced ts a left) (flat (t.Sign sign.Times) (λ m. refl) (factor_balanced us b right))

  expr_balanced : (ts : List Token) (e : ExprTree) → IsExpr ts e → Balanced ts
  expr_balanced _ _ (product ts e d) = product_balanced ts e d
  expr_balanced _ _ (plus ts us a b left right) = balanced_append (expr_balanced ts a left) (flat (t.Sign sign.Plus) (λ m. refl) (product_balanced us b right))
  expr_balanced _ _ (minus ts us a b left right) = balanced_append (expr_balanced ts a left) (flat (t.Sign sign.Minus) (λ m. refl) (product_balanced us b right))

printed_balanced : (e : ExprTree) → Balanced (words_of (expr_marks e))
printed_balanced e = expr_balanced _ e (expr_spelled e)

-- ---- what is printed is no deeper

-- brackets that need not stand
fewer : (x y : Bool) (marks : List Mark) (ts : List Token) → Balanced (words_of marks) → Lighter (words_of (in_brackets_if (x || y) marks)) ts → Lighter (words_of (in_brackets_if x marks)) ts
fewer true y marks ts even h = h
fewer false true marks ts even h = lighter_trans (bare_lighter (words_of marks) even) (subst (λ (us : List Token). Lighter us ts) (bracket_words marks) h)
fewer false false marks ts even h = h

-- brackets that stood before
kept : (x : Bool) (marks : List Mark) (ts : List Token) → Balanced ts → Lighter (words_of marks) ts → Lighter (words_of (in_brackets_if x marks)) (t.Sign sign.Open ∷ (ts ++ t.Sign sign.Close ∷ []))
kept true marks ts even h = subst (λ (us : List Token). Lighter us (t.Sign sign.Open ∷ (ts ++ t.Sign sign.Close ∷ []))) (sym (bracket_words marks)) (behind_lighter (t.Sign sign.Open) (ended_lighter (t.Sign sign.Close) h))
kept false marks ts even h = lighter_trans h (bare_lighter ts even)

both_sides : (a b : List Mark) (u : Token) (ts us : List Token) → Lighter (words_of a) ts → Lighter (words_of b) us → Lighter (words_of (a ++ (spaced u ++ b))) (ts ++ u ∷ us)
both_sides a b u ts us first second = subst (λ (vs : List Token). Lighter vs (ts ++ u ∷ us)) (sym (side_words a b u)) (sides_lighter u first second)

greatest_lighter : (n : ℕ) (b : Bool) → Lighter (words_of (if b then Word (t.Sign sign.Greatest) ∷ [] else Word (t.Number n) ∷ [])) (t.Number n ∷ [])
greatest_lighter n true = record { fits = λ m n j k a b h. (omega (arith, h.0), omega (arith, h.1), tt); brackets = λ m n a. a; operators = λ j k a. a }
greatest_lighter n false = same_lighter (t.Number n ∷ [])

least_lighter : (n : ℕ) (b : Bool) → Lighter (words_of (if b then Word (t.Sign sign.Least) ∷ [] else Word (t.Sign sign.Minus) ∷ Word (t.Number n) ∷ [])) (t.Sign sign.Minus ∷ t.Number n ∷ [])
least_lighter n true = record { fits = λ m n j k a b h. (omega (arith, h.0), omega (arith, h.1), tt); brackets = λ m n a. a; operators = λ j k a. omega arith }
least_lighter n false = same_lighter (t.Sign sign.Minus ∷ t.Number n ∷ [])

-- `0` for `-0`
nought_lighter : Lighter (t.Number 0 ∷ []) (t.Sign sign.Minus ∷ t.Number 0 ∷ [])
nought_lighter = record { fits = λ m n j k a b h. (omega (arith, h.0), omega (arith, h.1), tt); brackets = λ m n a. a; operators = λ j k a. omega arith }

mutual
  factor_lighter : (ts : List Token) (e : ExprTree) → IsFactor ts e → Lighter (words_of (in_brackets_if (is_sum e || is_product e) (expr_marks e))) ts
  factor_lighter _ _ (number n) = greatest_lighter n (int_eq (pos n) greatest_number)
  factor_lighter _ _ (negative zero) = nought_lighter
  factor_lighter _ _ (negative (suc n)) = least_lighter (suc n) (int_eq (negsuc n) least_number)
  factor_lighter _ _ least = same_lighter (t.Sign sign.Least ∷ [])
  factor_lighter _ _ greatest = same_lighter (t.Sign sign.Greatest ∷ [])
  factor_lighter _ _ (name x) = same_lighter (t.Name x ∷ [])
  factor_lighter _ _ (bracketed ts e d) = kept (is_sum e || is_product e) (expr_marks e) ts (expr_balanced ts e d) (expr_lighter ts e d)

  product_lighter : (ts : List Token) (e : ExprTree) → IsProduct ts e → Lighter (words_of (in_brackets_if (is_sum e) (expr_marks e))) ts
  product_lighter _ _ (factor ts e d) = fewer (is_sum e) (is_product e) (expr_marks e) ts (printed_balanced e) (factor_lighter ts e d)
  product_lighter _ _ (times ts us a b left right) = both_sides (in_brackets_if (is_sum a) (expr_marks a)) (in_brackets_if (is_sum b || is_product b) (expr_marks b)) (t.Sign sign.Times) ts us (product_lighter ts a left) (factor_lighter us b right)

  -- the canonical tokens are no deeper than any that spell the expression
  pub expr_lighter : (ts : List Token) (e : ExprTree) → IsExpr ts e → Lighter (words_of (expr_marks e)) ts
  expr_lighter _ _ (product ts e d) = fewer false (is_sum e) (expr_marks e) ts (printed_balanced e) (product_lighter ts e d)
  expr_lighter _ _ (plus ts us a b left right) = both_sides (expr_marks a) (in_brackets_if (is_sum b) (expr_marks b)) (t.Sign sign.Plus) ts us (expr_lighter ts a left) (product_lighter us b right)
  expr_lighter _ _ (minus ts us a b left right) = both_sides (expr_marks a) (in_brackets_if (is_sum b) (expr_marks b)) (t.Sign sign.Minus) ts us (expr_lighter ts a left) (product_lighter us b right)
