use Rattle.std.proofs.Common.{arith}
use Rattle.dep_graph.specs.Distances.{IsNextDistance}
use Rattle.dep_graph.proofs.Rounds.{each-pushed}
use Rattle.dep_graph.proofs.distances.next_distances.Goals as goal

pub loop-node-preserved : goal.loop-node-preserved
loop-node-preserved c =
    let k = c.loop-node.node in
    record {
      size = omega (arith, c.in_ok-push.ensures.len, c.loop-node.invariant.size);
      each = each-pushed (λ node distance. IsNextDistance c.args.edges.now c.args.distances.now c.args.round node distance) c.loop-node.next.items c.push.new.self.items c.next_distance.result k c.loop-node.invariant.size c.in_ok-push.ensures.items c.loop-node.invariant.each c.next_distance.ensures;
    }
