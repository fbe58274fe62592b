use Rattle.std.proofs.Common.{◌↔◌}
use Rattle.std.specs.Prelude.{IsTrue}
use Rattle.prog_paths.specs.StaticGraph.{IsVulnerable}
use Rattle.dep_graph.proofs.Laws.{vulnerable-right, seen_at}
use Rattle.dep_graph.proofs.graph.Graph.vulnerable.Goals as goal

pub returns : goal.returns
returns c =
    let g = c.self.inside in
    seen_at g.paths.now _ (λ paths. IsTrue c.get.result ↔ IsVulnerable paths c.args.x c.args.y) c.args.x c.args.y c.self.view_is c.requires.x c.requires.y
    (λ x_inside y_inside. vulnerable-right g.paths.now g.edges g.vulnerable g.reach c.self.invariant c.args.x c.args.y x_inside y_inside c.get.result c.get.ensures)
