use Rattle.std.proofs.Common.{◌∙◌, ◌-◌, arith}
use Rattle.prog_tree.specs.Tree.{comparison_tree}
use Rattle.prog_text.specs.Reading.{after_sign, comparison_at}
use Rattle.prog_text.proofs.Viewed.{one_further}
use Rattle.prog_text.proofs.reading.conditions.conjunction.Goals as goal
use Rattle.prog_text.specs.declared.lexing.token.Sign.TheVariants as sign

pub loop-all-preserved : goal.loop-all-preserved
loop-all-preserved c =
    let inv = c.loop-all.invariant in
    let begins = c.loop-all-test.ensures in
    let reads = c.in_ok-comparison-2.ensures in
    record {
      n = inv.n - 1;
      enough = omega (arith, begins.1, reads.1, inv.enough);
      shorter = omega (arith, begins.1, reads.1, inv.shorter);
      same = rw c.in_ok-push-2.ensures.items (one_further comparison_tree (after_sign sign.And) comparison_at inv.n _ _ _ _ _ (omega (arith, begins.1, inv.enough)) begins.0 reads.0 ∙ inv.same);
    }
