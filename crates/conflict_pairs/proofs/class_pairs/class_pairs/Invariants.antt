use Rattle.conflict_pairs.proofs.ClassRows.{AreRowsSoFar}
use Rattle.conflict_pairs.proofs.class_pairs.class_pairs.Given as goal

-- the classes whose first access stands before `n` have their rows
abbrev pub invariant-loop-n : goal.invariant-loop-n
invariant-loop-n l = AreRowsSoFar l.classes l.paths l.pairs.items l.rows.items l.n
