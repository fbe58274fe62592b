use Rattle.std.proofs.Common.{◌≡◌, ◌++◌, drop}
use Rattle.prog_paths.specs.Places.{program_from}
use Rattle.prog_paths.proofs.accesses.places.program_places.Given as goal

-- the places so far, with those of the nodes that are left
abbrev pub invariant-loop-node : goal.invariant-loop-node
invariant-loop-node l =
    l.places.items ++ program_from l.program l.node (drop l.node l.paths) ≡ program_from l.program 0 l.paths
