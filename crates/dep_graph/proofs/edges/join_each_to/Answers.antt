use Rattle.std.proofs.Common.{◌&&◌, ◌==◌, ℕ, List, take_all, refl, subst}
use Rattle.order_facts.specs.Square.{Enters}
use Rattle.dep_graph.specs.Edges.{is_one_of}
use Rattle.dep_graph.proofs.Entering.{one-more-first}
use Rattle.dep_graph.proofs.edges.join_each_to.Goals as goal

pub loop-x-preserved : goal.loop-x-preserved
loop-x-preserved c =
    one-more-first c.args.nodes.now c.loop-x.x-index c.loop-x-test.true c.args.table.now c.loop-x.table c.join_one.new.table _ c.args.y refl c.loop-x.invariant c.join_one.ensures

pub returns : goal.returns
returns c =
    subst (λ (l : List ℕ). Enters c.args.table.now c.loop-x.table (λ i j. is_one_of l i && (c.args.y == j)))
    (take_all c.loop-x.x-index c.args.nodes.now c.loop-x-test.false) c.loop-x.invariant
