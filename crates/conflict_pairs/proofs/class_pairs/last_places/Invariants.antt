use Rattle.conflict_pairs.proofs.ClassRows.{AreLastsSoFar}
use Rattle.conflict_pairs.proofs.class_pairs.last_places.Given as goal

abbrev pub invariant-loop-n : goal.invariant-loop-n
invariant-loop-n l = AreLastsSoFar l.classes l.places.items l.n
