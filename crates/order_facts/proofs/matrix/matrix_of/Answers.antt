use Rattle.std.proofs.Common.{◌≡◌, ◌+◌, ◌-◌, ℕ, drop, subst, arith}
use Rattle.order_facts.specs.Matrix.{IsMatrixOf}
use Rattle.order_facts.proofs.Closing.{IsMatrixOf-joined}
use Rattle.order_facts.proofs.matrix.matrix_of.Goals as goal

pub loop-through-preserved : goal.loop-through-preserved
loop-through-preserved c =
    let facts = c.args.facts.now in
    let at = c.loop-through.through - 1 in
    let back : c.loop-through.through ≡ at + 1 = omega arith in
    let before = subst (λ (n : ℕ). IsMatrixOf c.loop-through.matrix facts (drop n facts)) back c.loop-through.invariant.matrix in
    record { within = omega arith; matrix = IsMatrixOf-joined facts _ _ at (omega arith) before c.join.ensures }
