use Rattle.std.proofs.Common.{◌<◌, ◌∙◌, arith}
use Rattle.dep_graph.proofs.Closing.{entries-itself}
use Rattle.dep_graph.proofs.closure.with_itself.Goals as goal

pub loop-node-preserved : goal.loop-node-preserved
loop-node-preserved c =
    let edges = c.args.edges.now in
    let old = c.loop-node.reach in
    let k = c.loop-node.node in
    let size = c.loop-node.invariant.size in
    let raises = c.raise.ensures in
    let inside : k < edges.size = omega arith in
    record {
      size = raises.size ∙ size;
      joined = entries-itself old c.raise.new.self edges k size inside c.loop-node.invariant.joined c.loop-node.invariant.ahead raises;
      ahead = λ i j p q l. raises.others i j (omega arith) (omega arith) (λ e. let f = e.0 in absurd (omega arith)) ∙ c.loop-node.invariant.ahead i j p q (omega arith);
    }
