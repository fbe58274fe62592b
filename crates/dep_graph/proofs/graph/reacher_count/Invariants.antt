use Rattle.std.proofs.Common.{◌≡◌, ◌≤◌, true}
use Rattle.order_facts.specs.Square.{entry}
use Rattle.dep_graph.specs.Counting.{IsCountOf}
use Rattle.dep_graph.proofs.graph.reacher_count.Given as goal

abbrev pub invariant-loop-from : goal.invariant-loop-from
invariant-loop-from l = record {
  counted : IsCountOf (λ from. entry l.matrix from l.to ≡ true) l.from l.count;
  within : l.count ≤ l.from;
}
