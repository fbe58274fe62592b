use Rattle.std.proofs.Common.{◌≡◌, ◌++◌, drop}
use Rattle.prog_paths.specs.Places.{placed_from}
use Rattle.prog_paths.proofs.accesses.places.push_node.Given as goal

-- the places so far, with those of the accesses that are left
abbrev pub invariant-loop-number : goal.invariant-loop-number
invariant-loop-number l = l.places.items ++ placed_from l.node l.number (drop l.number l.accesses) ≡ l.fn.places.items ++ placed_from l.node 0 l.accesses
