use Rattle.std.proofs.Common.{◌≡◌, ℕ, List, Option, None, Some, subst, sym, ap, ◌∙◌, set, replicate, rules}
use Rattle.dep_graph.specs.Distances.{KnowsWithin}
use Rattle.dep_graph.proofs.Rounds.{KnowsWithin-first}
use Rattle.dep_graph.proofs.distances.first_distances.Goals as goal

pub returns : goal.returns
returns c =
    let edges = c.args.edges.now in
    let all : c.in_ok-distances.distances.items ≡ replicate c.size.result None = c.in_ok-distances.ensures.items_if_clones_equal (λ y h. search rules) in
    let items : c.in_ok-distances.distances.items ≡ replicate edges.size None = all ∙ ap (λ n. replicate n None) c.size.ensures in
    subst (λ (l : List (Option ℕ)). KnowsWithin edges c.args.end (set l c.args.end (Some 0)) 0) (sym items) (KnowsWithin-first edges c.args.end c.requires)
