use Rattle.std.proofs.Common.{◌≡◌, ℕ, ◌<◌, length, get_or}
use Rattle.conflict_pairs.specs.Alike.{HaveSameCovers, accesses_at}
use Rattle.conflict_pairs.proofs.alike.cover_classes_of.Given as goal

-- the nodes so far have nodes with the same covers
abbrev pub invariant-loop-x : goal.invariant-loop-x
invariant-loop-x l = record {
  long : length l.classes.items ≡ l.x;
  same : (k : ℕ) → k < l.x → HaveSameCovers (accesses_at l.paths k) (accesses_at l.paths (get_or l.classes.items k 0));
}
