use Rattle.std.proofs.Common.{◌&&◌, ◌==◌, ℕ, List, take_all, refl, subst}
use Rattle.order_facts.specs.Square.{Enters}
use Rattle.dep_graph.specs.Edges.{is_one_of}
use Rattle.dep_graph.proofs.Entering.{one-more-second}
use Rattle.dep_graph.proofs.edges.join_each.Goals as goal

pub loop-y-preserved : goal.loop-y-preserved
loop-y-preserved c =
    one-more-second c.args.others.now c.loop-y.y-index c.loop-y-test.true c.args.table.now c.loop-y.table c.join_one.new.table c.args.x _ refl c.loop-y.invariant c.join_one.ensures

pub returns : goal.returns
returns c =
    subst (λ (l : List ℕ). Enters c.args.table.now c.loop-y.table (λ i j. (c.args.x == i) && is_one_of l j))
    (take_all c.loop-y.y-index c.args.others.now c.loop-y-test.false) c.loop-y.invariant
