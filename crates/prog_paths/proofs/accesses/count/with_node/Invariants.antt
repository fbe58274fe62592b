use Rattle.std.proofs.Common.{ℕ, List, ◌<◌, ◌++◌, take}
use Rattle.std.specs.Prelude.{All}
use Rattle.prog_paths.specs.declared.accesses.places.Placed.{Placed}
use Rattle.prog_paths.specs.Places.{placed_from}
use Rattle.prog_paths.specs.Tally.{IsTally}
use Rattle.prog_paths.proofs.accesses.count.with_node.Given as goal

-- the tally of what was there and of the accesses so far
abbrev pub invariant-loop-access : goal.invariant-loop-access
invariant-loop-access l = (node : ℕ) (places : List Placed) → All (λ p. p.node < node) places → IsTally l.table places l.fn.before → IsTally l.table (places ++ placed_from node 0 (take l.access-index l.accesses)) l.tally
