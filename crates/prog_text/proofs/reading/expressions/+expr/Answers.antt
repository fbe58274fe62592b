use Rattle.std.proofs.Common.{◌≡◌, List, length, Ok, refl, sym, arith}
use Rattle.std.proofs.lemmas.Result.{err_from_is_err_and}
use Rattle.prog_tree.specs.Syntax.{ExprTree}
use Rattle.prog_text.specs.declared.reading.read_error.ReadError.{ReadError}
use Rattle.prog_text.specs.declared.reading.read_error.ReadError.TheVariants as errors
use Rattle.prog_text.specs.declared.lexing.token.Token.{Token}
use Rattle.prog_text.specs.Reading.{Fails, product_at, sum_from, sum_at, expr_at}
use Rattle.prog_text.proofs.Enough.{expr_is}
use Rattle.prog_text.proofs.reading.expressions.+expr.Goals as goal

-- no product, and so no expression
no_product : (k : ReadError) (ts : List Token) → Fails k (product_at expr_at ts) → Fails k (expr_at ts)
unfolding sum_at
no_product errors.Memory ts h = tt
no_product (errors.Unexpected left) ts h = rw (expr_is ts, h) refl

-- behind the first product
begun : (ts rest : List Token) (e : ExprTree) → product_at expr_at ts ≡ Ok (e, rest) → sum_from expr_at (length rest) e rest ≡ expr_at ts
unfolding sum_at
begun ts rest e h = sym (rw (expr_is ts, h) refl)

pub expr-returns-in_err-left : goal.expr-returns-in_err-left
expr-returns-in_err-left t c =
    let p = err_from_is_err_and c.from_residual.result c.from_residual.ensures.1 in
    rw (p.1, p.2) (no_product c.in_err-left.field-0.0 c.args.cursor.now.tokens.now c.in_err-left.ensures)

pub expr-loop-cursor-init : goal.expr-loop-cursor-init
expr-loop-cursor-init t c = record {
  n = length c.product.new.cursor.tokens.now;
  enough = omega arith;
  shorter = c.in_ok-left.ensures.1;
  same = begun c.args.cursor.now.tokens.now c.product.new.cursor.tokens.now _ c.in_ok-left.ensures.0;
}
