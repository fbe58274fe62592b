use Rattle.std.proofs.Common.{◌≡◌, ◌++◌, drop}
use Rattle.prog_paths.specs.Places.{all_from}
use Rattle.prog_paths.proofs.accesses.places.all_places.Given as goal

-- the places so far, with those of the nodes that are left
abbrev pub invariant-loop-node : goal.invariant-loop-node
invariant-loop-node l = l.places.items ++ all_from l.node (drop l.node l.paths) ≡ all_from 0 l.paths
