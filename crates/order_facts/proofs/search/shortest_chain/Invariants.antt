use Rattle.std.proofs.Common.{◌-◌}
use Rattle.order_facts.proofs.Shortest.{rank_of}
use Rattle.order_facts.proofs.Levels.{IsLevel}
use Rattle.order_facts.proofs.search.shortest_chain.Given as goal

abbrev pub invariant-loop-first : goal.invariant-loop-first
invariant-loop-first l = IsLevel l.facts l.x l.fn.y l.reached.items l.steps

abbrev pub decreases-loop-first : goal.decreases-loop-first
decreases-loop-first l = rank_of l.facts l.x l.fn.y - l.steps
