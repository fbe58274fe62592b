use Rattle.std.proofs.Common.{◌∙◌, ◌-◌, arith}
use Rattle.prog_tree.specs.Tree.{clause_tree}
use Rattle.prog_text.specs.Reading.{after_sign, conjunction_at}
use Rattle.prog_text.proofs.Viewed.{one_further}
use Rattle.prog_text.proofs.reading.conditions.test.Goals as goal
use Rattle.prog_text.specs.declared.lexing.token.Sign.TheVariants as sign

pub loop-any-preserved : goal.loop-any-preserved
loop-any-preserved c =
    let inv = c.loop-any.invariant in
    let begins = c.loop-any-test.ensures in
    let reads = c.in_ok-conjunction-2.ensures in
    record {
      n = inv.n - 1;
      enough = omega (arith, begins.1, reads.1, inv.enough);
      shorter = omega (arith, begins.1, reads.1, inv.shorter);
      same = rw c.in_ok-push-2.ensures.items (one_further clause_tree (after_sign sign.Or) conjunction_at inv.n _ _ _ _ _ (omega (arith, begins.1, inv.enough)) begins.0 reads.0 ∙ inv.same);
    }
