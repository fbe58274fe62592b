use Rattle.std.proofs.Common.{◌-◌, ◌∙◌, arith}
use Rattle.prog_tree.specs.Tree.{program_tree}
use Rattle.prog_text.specs.Reading.{after_sign, program_at}
use Rattle.prog_text.proofs.Viewed.{one_further}
use Rattle.prog_text.proofs.reading.sets.read_programs.Goals as goal
use Rattle.prog_text.specs.declared.lexing.token.Sign.TheVariants as sign

pub loop-programs-preserved : goal.loop-programs-preserved
loop-programs-preserved c =
    let inv = c.loop-programs.invariant in
    let begins = c.loop-programs-test.ensures in
    let reads = c.in_ok-program.ensures in
    record {
      n = inv.n - 1;
      enough = omega (arith, begins.1, reads.1, inv.enough);
      same = rw c.in_ok-push.ensures.items (one_further program_tree (after_sign sign.Program) program_at inv.n _ _ _ _ _ (omega (arith, begins.1, inv.enough)) begins.0 reads.0 ∙ inv.same);
    }
