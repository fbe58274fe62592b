use Rattle.std.proofs.Common.{◌≡◌, ◌+◌, ◌++◌, drop, length}
use Rattle.prog_paths.specs.Places.{all_from}
use Rattle.conflict_pairs.specs.Classes.{starts_from}
use Rattle.conflict_pairs.proofs.classes.starts_of.Given as goal

-- the starts so far, with those of the nodes that are left, and how many accesses are left
abbrev pub invariant-loop-path : goal.invariant-loop-path
invariant-loop-path l = record {
  starts : l.starts.items ++ starts_from l.start (drop l.path-index l.paths) ≡ starts_from 0 l.paths;
  left : l.start + length (all_from l.path-index (drop l.path-index l.paths)) ≡ length (all_from 0 l.paths);
}
