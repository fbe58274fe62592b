use Rattle.std.proofs.Common.{◌≡◌, length}
use Rattle.conflict_pairs.proofs.KnownClasses.{AreNodesSoFar}
use Rattle.conflict_pairs.proofs.classes.nodes_of.Given as goal

abbrev pub invariant-loop-n : goal.invariant-loop-n
invariant-loop-n l = record {
  size : length l.nodes.items ≡ l.count;
  so_far : AreNodesSoFar l.places l.numbers l.nodes.items l.n;
}
