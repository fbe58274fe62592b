use Rattle.std.proofs.Common.{◌≡◌, ℕ, List, ◌∷◌, ◌++◌, Some}
use Rattle.order_facts.specs.Square.{Joins}
use Rattle.dep_graph.specs.Ways.{IsLeastWay}
use Rattle.dep_graph.specs.Distances.{distance_at, KnowsWithin}
use Rattle.dep_graph.proofs.least_way.walk.Given as goal

-- the nodes so far, followed by a least way from the last of them, are a least way
abbrev pub invariant-loop-left : goal.invariant-loop-left
invariant-loop-left l = record {
  known : distance_at l.distances l.at ≡ Some l.left;
  onward : (end rounds : ℕ) → KnowsWithin l.edges end l.distances rounds → (rest : List ℕ) → IsLeastWay (Joins l.edges) l.at end (l.at ∷ rest) → IsLeastWay (Joins l.edges) l.from end (l.way.items ++ rest);
}

abbrev pub decreases-loop-left : goal.decreases-loop-left
decreases-loop-left l = l.left
