use Rattle.std.proofs.Common.{◌&&◌, ◌==◌, take}
use Rattle.order_facts.specs.Square.{Enters}
use Rattle.dep_graph.specs.Edges.{is_one_of}
use Rattle.dep_graph.proofs.edges.join_each_to.Given as goal

-- the nodes so far are joined
abbrev pub invariant-loop-x : goal.invariant-loop-x
invariant-loop-x l = Enters l.fn.table l.table (λ i j. is_one_of (take l.x-index l.nodes) i && (l.y == j))
