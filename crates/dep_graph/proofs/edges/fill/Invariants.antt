use Rattle.std.proofs.Common.{◌≡◌, ℕ, ◌<◌, length, take}
use Rattle.order_facts.specs.Sets.{is_in}
use Rattle.dep_graph.specs.Edges.{is_one_of}
use Rattle.dep_graph.proofs.edges.fill.Given as goal

-- the nodes so far are in the set, and no others
abbrev pub invariant-loop-node : goal.invariant-loop-node
invariant-loop-node l = record {
  size : length l.set ≡ length l.fn.set;
  nodes : (n : ℕ) → n < length l.fn.set → is_in l.set n ≡ is_one_of (take l.node-index l.nodes) n;
}
