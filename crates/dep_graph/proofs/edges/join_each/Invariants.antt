use Rattle.std.proofs.Common.{◌&&◌, ◌==◌, take}
use Rattle.order_facts.specs.Square.{Enters}
use Rattle.dep_graph.specs.Edges.{is_one_of}
use Rattle.dep_graph.proofs.edges.join_each.Given as goal

-- the nodes so far are joined
abbrev pub invariant-loop-y : goal.invariant-loop-y
invariant-loop-y l = Enters l.fn.table l.table (λ i j. (l.x == i) && is_one_of (take l.y-index l.others) j)
