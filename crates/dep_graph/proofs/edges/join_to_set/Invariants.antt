use Rattle.std.proofs.Common.{◌&&◌, take}
use Rattle.order_facts.specs.Sets.{is_in}
use Rattle.order_facts.specs.Square.{Enters}
use Rattle.dep_graph.specs.Edges.{is_one_of}
use Rattle.dep_graph.proofs.edges.join_to_set.Given as goal

-- the nodes so far are joined to the set
abbrev pub invariant-loop-node : goal.invariant-loop-node
invariant-loop-node l = Enters l.fn.table l.table (λ x y. is_one_of (take l.node-index l.nodes) x && is_in l.set y)
