use Rattle.std.proofs.Common.{◌↔◌}
use Rattle.std.specs.Prelude.{IsTrue}
use Rattle.prog_paths.specs.StaticGraph.{StaticEdge}
use Rattle.dep_graph.proofs.Laws.{edge-right, seen_at}
use Rattle.dep_graph.proofs.graph.Graph.edge.Goals as goal

pub returns : goal.returns
returns c =
    let g = c.self.inside in
    seen_at g.paths.now _ (λ paths. IsTrue c.get.result ↔ StaticEdge paths c.args.x c.args.y) c.args.x c.args.y c.self.view_is c.requires.x c.requires.y
    (λ x_inside y_inside. edge-right g.paths.now g.edges g.vulnerable g.reach c.self.invariant c.args.x c.args.y x_inside y_inside c.get.result c.get.ensures)
