use Rattle.std.proofs.Common.{◌<◌, List, length, sym, subst}
use Rattle.prog_check.specs.declared.path.Path.{Path}
use Rattle.prog_paths.specs.StaticGraph.{StaticEdge, Leads}
use Rattle.dep_graph.specs.Counting.{IsCountOf}
use Rattle.dep_graph.proofs.Laws.{level-right}
use Rattle.dep_graph.proofs.graph.Graph.level.Goals as goal

pub returns : goal.returns
returns c =
    let g = c.self.inside in
    let x = c.args.x in
    let inside = subst (λ (paths : List Path). x < length paths) (sym c.self.view_is) c.requires in
    subst (λ (paths : List Path). IsCountOf (λ u. Leads (StaticEdge paths) u x) (length paths) c.reacher_count.result) c.self.view_is (level-right g.paths.now g.edges g.vulnerable g.reach c.self.invariant x c.reacher_count.result inside c.reacher_count.ensures.count)
