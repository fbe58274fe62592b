use Rattle.std.proofs.Common.{◌≡◌, ℕ, ◌<◌, ◌≤◌, ◌+◌, List, length}
use Rattle.order_facts.specs.declared.steps.Node.{Node}
use Rattle.order_facts.specs.declared.steps.Fact.{Fact}
use Rattle.order_facts.specs.Chain.{IsStep, IsChain, RunsBetween}
use Rattle.order_facts.specs.Search.{reached_at, IsTrail}
use Rattle.order_facts.proofs.search.walk.Given as goal

abbrev pub invariant-loop-at : goal.invariant-loop-at
invariant-loop-at l = record {
  place : (k : ℕ) × (k < length l.reached) × (l.at ≡ reached_at l.reached k);
  short : length l.chain.items + l.at.steps ≤ (reached_at l.reached l.first).steps + 2;
  chain : (facts : List Fact) (y : Node) → IsTrail facts y l.reached → IsStep facts l.fn.x (reached_at l.reached l.first).node → IsChain facts l.chain.items × RunsBetween l.fn.x l.at.node l.chain.items;
}

abbrev pub decreases-loop-at : goal.decreases-loop-at
decreases-loop-at l = l.at.steps
