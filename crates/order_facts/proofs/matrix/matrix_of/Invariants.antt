use Rattle.std.proofs.Common.{◌≤◌, drop, length}
use Rattle.order_facts.specs.Matrix.{IsMatrixOf}
use Rattle.order_facts.proofs.matrix.matrix_of.Given as goal

-- the facts from `through` on are in
abbrev pub invariant-loop-through : goal.invariant-loop-through
invariant-loop-through l = record {
  within : l.through ≤ length l.facts;
  matrix : IsMatrixOf l.matrix l.facts (drop l.through l.facts);
}

abbrev pub decreases-loop-through : goal.decreases-loop-through
decreases-loop-through l = l.through
