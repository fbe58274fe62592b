use Rattle.std.proofs.Common.{◌≡◌, length}
use Rattle.order_facts.proofs.Levels.{IsSpreading}
use Rattle.order_facts.proofs.search.spread.Given as goal

abbrev pub invariant-loop-fact : goal.invariant-loop-fact
invariant-loop-fact l = record {
  known : l.known ≡ length l.fn.reached.items;
  spreading : IsSpreading l.facts l.fn.reached.items l.reached.items l.steps l.fact-index;
}
