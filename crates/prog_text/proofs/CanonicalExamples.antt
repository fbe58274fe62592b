-- Drafts and their canonical text.
use Rattle.std.proofs.Common.{◌≡◌, pos, negsuc, List, ℕ, [], ◌∷◌, refl, codes}
use Rattle.std.specs.Prelude.{true, false}
use Rattle.std.specs.Fmt.{digits}
use Rattle.prog_tree.specs.Number.{least as least_number, greatest as greatest_number}
use Rattle.prog_tree.specs.Syntax.{ExprTree, Literal, Named, Plus, Minus, Times, Less, Equal, TestTree, TwoRange, Count, Reply, Abort, BlockTree, BlockEnd, Then, Branch}
use Rattle.prog_tree.specs.declared.table.Arity.TheVariants as arity
use Rattle.prog_text.specs.Canonical.{bytes_of, expr_marks, test_marks, block_marks, canonical}

abbrev expr_text : ExprTree → List ℕ
expr_text e = bytes_of (expr_marks e)

abbrev lines : BlockTree → List ℕ
lines b = bytes_of (block_marks 1 b)

abbrev a : ExprTree
a = Named (codes "a")

abbrev b : ExprTree
b = Named (codes "b")

abbrev c : ExprTree
c = Named (codes "c")

-- ---- literals

least : expr_text (Literal least_number) ≡ codes "least"
least = refl

above_least : expr_text (Literal (negsuc 9223372036854775806)) ≡ codes "-9223372036854775807"
unfolding digits
above_least = refl

greatest : expr_text (Literal greatest_number) ≡ codes "greatest"
greatest = refl

below_greatest : expr_text (Literal (pos 9223372036854775806)) ≡ codes "9223372036854775806"
unfolding digits
below_greatest = refl

nought : expr_text (Literal (pos 0)) ≡ codes "0"
unfolding digits
nought = refl

negative : expr_text (Literal (negsuc 4)) ≡ codes "-5"
unfolding digits
negative = refl

-- ---- brackets

to_the_left : expr_text (Minus (Minus a b) c) ≡ codes "a - b - c"
to_the_left = refl

to_the_right : expr_text (Minus a (Minus b c)) ≡ codes "a - (b - c)"
to_the_right = refl

sum_in_product : expr_text (Times (Plus a b) c) ≡ codes "(a + b) * c"
sum_in_product = refl

product_on_the_right : expr_text (Times a (Times b c)) ≡ codes "a * (b * c)"
product_on_the_right = refl

product_on_the_left : expr_text (Times (Times a b) c) ≡ codes "a * b * c"
product_on_the_left = refl

products_in_sum : expr_text (Plus (Times a b) (Times b c)) ≡ codes "a * b + b * c"
products_in_sum = refl

-- ---- tests and blocks

abbrev below : (left right : ExprTree) → TestTree
below left right = (record { negated = false; left = left; relation = Less; right = right } ∷ []) ∷ []

tested : bytes_of (test_marks ((record { negated = true; left = a; relation = Less; right = b } ∷ record { negated = false; left = b; relation = Equal; right = c } ∷ []) ∷ (record { negated = false; left = c; relation = Less; right = a } ∷ []) ∷ []))
    ≡ codes "not a < b and b == c or c < a"
tested = refl

no_second_block : lines (Branch (below a b) (Then Abort BlockEnd) BlockEnd (Then (Reply a) BlockEnd)) ≡ codes "  if a < b {\n    abort;\n  }\n  reply a;\n"
no_second_block = refl

empty_first_block : lines (Branch (below a b) BlockEnd (Then (Reply a) BlockEnd) BlockEnd) ≡ codes "  if a < b {\n  } else {\n    reply a;\n  }\n"
empty_first_block = refl

ranged : lines (Then (Count (codes "n") (codes "t") (TwoRange a (Literal (pos 0)) (Minus a (Minus b c)))) BlockEnd) ≡ codes "  let n = count t[a, 0..a - (b - c)];\n"
unfolding digits
ranged = refl

-- ---- tables and programs

grown : canonical (record { tables = record { name = codes "entry"; arity = arity.Two; grow = true } ∷ []; programs = record { name = codes "P"; params = []; body = BlockEnd } ∷ [] })
    ≡ codes "table entry 2 grow;\nprogram P() {\n}\n"
unfolding digits
grown = refl

nothing_printed : canonical (record { tables = []; programs = [] }) ≡ []
nothing_printed = refl
