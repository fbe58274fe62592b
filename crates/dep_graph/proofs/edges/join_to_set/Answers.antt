use Rattle.std.proofs.Common.{◌+◌, ◌&&◌, ℕ, List, get_or, take, take_all, refl, subst, sym, arith}
use Rattle.order_facts.specs.Sets.{is_in}
use Rattle.order_facts.specs.Square.{Grid, Enters}
use Rattle.dep_graph.specs.Edges.{is_one_of}
use Rattle.dep_graph.proofs.Entering.{Enters-row_more, Enters-row_beyond}
use Rattle.dep_graph.proofs.edges.join_to_set.Goals as goal
use Rattle.dep_graph.proofs.edges.join_to_set.Goals.{then-node-size, else-node-size}

pub loop-node-preserved : goal.loop-node-preserved
loop-node-preserved c =
    let nodes = c.args.nodes.now in
    let i = c.loop-node.node-index in
    let first = c.args.table.now in
    let old = c.loop-node.table in
    let members = c.args.set.now in
    let before = c.loop-node.invariant in
    elim c.if-node-size.branch [
      | then-node-size w ↦
          subst (λ (t : Grid). Enters first t (λ x y. is_one_of (take (i + 1) nodes) x && is_in members y)) (sym w.table-is)
          (Enters-row_more nodes i c.loop-node-test.true first old w.join_set.new.self members (get_or nodes i 0) refl before w.join_set.ensures)
      | else-node-size w ↦
          subst (λ (t : Grid). Enters first t (λ x y. is_one_of (take (i + 1) nodes) x && is_in members y)) (sym w.table-is)
          (Enters-row_beyond nodes i c.loop-node-test.true first old members before.size (omega (arith, w.if-node-size.false, c.size.ensures)) before)
    ]

pub returns : goal.returns
returns c =
    subst (λ (l : List ℕ). Enters c.args.table.now c.loop-node.table (λ x y. is_one_of l x && is_in c.args.set.now y))
    (take_all c.loop-node.node-index c.args.nodes.now c.loop-node-test.false) c.loop-node.invariant
