use Rattle.std.proofs.Common.{◌∙◌, ℕ, List, get_or, length, take_all, ap, refl, arith}
use Rattle.std.specs.Prelude.{Bool}
use Rattle.order_facts.specs.Sets.{is_in}
use Rattle.dep_graph.specs.Edges.{is_one_of}
use Rattle.dep_graph.proofs.Entering.{in-more, in-beyond}
use Rattle.dep_graph.proofs.edges.fill.Goals as goal
use Rattle.dep_graph.proofs.edges.fill.Goals.{then-node-size, else-node-size}

pub loop-node-preserved : goal.loop-node-preserved
loop-node-preserved c =
    let nodes = c.args.nodes.now in
    let i = c.loop-node.node-index in
    let size = length c.args.set.now in
    let before = c.loop-node.invariant in
    elim c.if-node-size.branch [
      | then-node-size w ↦ record {
        size = ap (λ (s : List Bool). length s) w.set-is ∙ w.insert.ensures.size ∙ before.size;
        nodes = λ n p.
            ap (λ (s : List Bool). is_in s n) w.set-is
            ∙ in-more nodes i c.loop-node-test.true c.loop-node.set w.insert.new.self size (get_or nodes i 0) n refl before.size w.insert.ensures p (before.nodes n p);
      }
      | else-node-size w ↦ record {
        size = ap (λ (s : List Bool). length s) w.set-is ∙ before.size;
        nodes = λ n p.
            ap (λ (s : List Bool). is_in s n) w.set-is
            ∙ in-beyond nodes i c.loop-node-test.true c.loop-node.set size n (omega (arith, w.if-node-size.false, c.size.ensures, before.size)) p (before.nodes n p);
      }
    ]

pub returns-clause-nodes : goal.returns-clause-nodes
returns-clause-nodes c = λ n p. c.loop-node.invariant.nodes n p ∙ ap (λ (l : List ℕ). is_one_of l n) (take_all c.loop-node.node-index c.args.nodes.now c.loop-node-test.false)
