use Rattle.std.proofs.Common.{◌≡◌, ℕ, ◌<◌, ◌-◌, Some}
use Rattle.order_facts.specs.Square.{Joins}
use Rattle.dep_graph.specs.Distances.{distance_at}
use Rattle.dep_graph.proofs.distances.leads_to_known.Given as goal

abbrev pub invariant-loop-next : goal.invariant-loop-next
invariant-loop-next l = (w : ℕ) → w < l.start → ¬ (Joins l.edges l.node w × (steps : ℕ) × (distance_at l.distances w ≡ Some steps))

abbrev pub decreases-loop-next : goal.decreases-loop-next
decreases-loop-next l = l.edges.size - l.start
