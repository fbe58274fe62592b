use Rattle.std.proofs.Common.{◌≡◌, ◌+◌, ◌*◌, ◌<◌, ◌≤◌, length, ℕ}
use Rattle.prog_tree.specs.Tree.{expr_tree}
use Rattle.prog_text.specs.Reading.{product_from, product_at, sum_from, expr_at}
use Rattle.prog_text.proofs.reading.expressions.+expr.Given as goal

abbrev pub decreases-expr : goal.decreases-expr
decreases-expr l = 3 * length l.cursor.now.tokens.now + 2

abbrev pub decreases-product : goal.decreases-product
decreases-product l = 3 * length l.cursor.now.tokens.now + 1

abbrev pub decreases-factor : goal.decreases-factor
decreases-factor l = 3 * length l.cursor.now.tokens.now

-- reading on from here gives what reading the whole gives
abbrev pub invariant-expr-loop-cursor : goal.invariant-expr-loop-cursor
invariant-expr-loop-cursor l = record {
  n : ℕ;
  enough : length l.cursor.tokens.now ≤ n;
  shorter : length l.cursor.tokens.now < length l.fn.cursor.tokens.now;
  same : sum_from expr_at n (expr_tree l.left) l.cursor.tokens.now ≡ expr_at l.fn.cursor.tokens.now;
}

abbrev pub decreases-expr-loop-cursor : goal.decreases-expr-loop-cursor
decreases-expr-loop-cursor l = length l.cursor.tokens.now

abbrev pub invariant-product-loop-cursor : goal.invariant-product-loop-cursor
invariant-product-loop-cursor l = record {
  n : ℕ;
  enough : length l.cursor.tokens.now ≤ n;
  shorter : length l.cursor.tokens.now < length l.fn.cursor.tokens.now;
  same : product_from expr_at n (expr_tree l.left) l.cursor.tokens.now ≡ product_at expr_at l.fn.cursor.tokens.now;
}

abbrev pub decreases-product-loop-cursor : goal.decreases-product-loop-cursor
decreases-product-loop-cursor l = length l.cursor.tokens.now
