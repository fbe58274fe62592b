use Rattle.std.proofs.Common.{◌≡◌, ◌∙◌, None, subst, sym}
use Rattle.std.proofs.lemmas.Result.{err_from_is_err_and}
use Rattle.prog_text.specs.declared.lexing.token.Sign.TheVariants as sign
use Rattle.prog_text.specs.Reading.{Fails, after_sign, as_plain, statement_at}
use Rattle.prog_text.proofs.BlockSteps.{next_ends, next_goes_on, body_ends, statement_fails}
use Rattle.prog_text.proofs.reading.blocks.Body.next.Goals as goal

pub returns-in_default : goal.returns-in_default
returns-in_default c =
    let stack = c.args.self.now.stack.items in
    let done = c.args.self.now.done.items in
    (sym (next_ends stack done _ _ c.if-eat.ensures.0 ∙ body_ends stack done _ c.in_default.ensures.variant.1), c.if-eat.ensures.1)

pub returns-in_err-statement : goal.returns-in_err-statement
returns-in_err-statement c =
    let p = err_from_is_err_and c.from_residual-in_err-statement.result c.from_residual-in_err-statement.ensures.1 in
    let k = c.in_err-statement.field-0.0 in
    let stack = c.args.self.now.stack.items in
    let done = c.args.self.now.done.items in
    let ts = c.args.cursor.now.tokens.now in
    let first = c.if-eat.ensures.1 in
    let second = c.if-eat-2.ensures.1 ∙ first in
    let no_branch = subst (λ us. after_sign sign.If us ≡ None) first c.if-eat-2.ensures.0 in
    let no_each = subst (λ us. after_sign sign.Each us ≡ None) second c.if-eat-3.ensures.0 in
    let fails = subst (λ us. Fails k (as_plain (statement_at us))) (c.if-eat-3.ensures.1 ∙ second) c.in_err-statement.ensures in
    rw (p.1, p.2) (subst (Fails k) (sym (next_goes_on stack done ts c.if-eat.ensures.0 no_branch no_each)) (statement_fails k stack done ts fails))
