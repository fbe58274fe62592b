use Rattle.std.proofs.Common.{◌≡◌, ◌<◌, ◌-◌, ◌∙◌, sym, arith, length, Some, Ok}
use Rattle.std.proofs.lemmas.Grind.{common_steps}
use Rattle.prog_text.specs.Lexing.{piece_at}
use Rattle.prog_text.proofs.Cutting.{joined_further, zip_push}
use Rattle.prog_text.proofs.lexing.lexer.tokens.Goals as goal

pub loop-rest-preserved-in_ok-push-2 : goal.loop-rest-preserved-in_ok-push-2
loop-rest-preserved-in_ok-push-2 c =
    let begins : 0 < length c.loop-rest.rest.now = grind (arith, common_steps, c.in_ok-token.ensures.shorter) in
    let read : piece_at c.loop-rest.rest.now ≡ Ok (Some c.in-Some.token, c.in_ok-token.field-0.rest.now) = rw (← c.in-Some.is) c.in_ok-token.ensures.reads in
    record {
      n = c.loop-rest.invariant.n - 1;
      enough = omega (arith, c.in_ok-token.ensures.shorter, c.loop-rest.invariant.enough);
      rows = grind (arith, common_steps, c.in_ok-push.ensures.items, c.in_ok-push-2.ensures.items, c.loop-rest.invariant.rows);
      same = rw (c.in_ok-push.ensures.items, c.in_ok-push-2.ensures.items, zip_push _ _ _ _ c.loop-rest.invariant.rows) (sym (joined_further _ _ _ _ (Some c.in-Some.token) begins c.loop-rest.invariant.enough read) ∙ c.loop-rest.invariant.same);
    }
