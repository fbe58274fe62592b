use Rattle.std.proofs.Common.{ℕ, List, refl, sym, subst}
use Rattle.prog_check.specs.declared.path.Path.{Path}
use Rattle.prog_paths.specs.StaticGraph.{IsDangerous}
use Rattle.dep_graph.specs.declared.danger.Danger.{Danger}
use Rattle.order_facts.specs.Square.{Joins}
use Rattle.dep_graph.specs.Ways.{IsLeastWay}
use Rattle.dep_graph.specs.Danger.{IsLeastDanger}
use Rattle.dep_graph.proofs.Laws.{none-right, danger-right}
use Rattle.dep_graph.proofs.graph.Graph.danger.Goals as goal

pub returns-in_default-clause-none : goal.returns-in_default-clause-none
returns-in_default-clause-none c =
    let g = c.self.inside in
    subst (λ (paths : List Path). IsDangerous paths → ⊥) c.self.view_is (none-right g.paths.now g.edges g.vulnerable g.reach c.self.invariant c.in_default.ensures.none)

pub first_exposure-requires-clause-vulnerable : goal.first_exposure-requires-clause-vulnerable
first_exposure-requires-clause-vulnerable c = (c.self.invariant.vulnerable_are.joins c.in-Some.triple.x c.in-Some.triple.y).0 c.in-Some.ensures.found.closes.first

pub first_exposure-requires-2-clause-vulnerable : goal.first_exposure-requires-2-clause-vulnerable
first_exposure-requires-2-clause-vulnerable c = (c.self.invariant.vulnerable_are.joins c.in-Some.triple.y c.in-Some.triple.z).0 c.in-Some.ensures.found.closes.second

pub returns-clause-found : goal.returns-clause-found
returns-clause-found c =
    let g = c.self.inside in
    let back = subst (λ (nodes : List ℕ). IsLeastWay (Joins g.edges) c.in-Some.triple.z c.in-Some.triple.x nodes) (sym c.from_vec.ensures) c.in_ok-back.ensures in
    let d : Danger = record { x = c.in-Some.triple.x; y = c.in-Some.triple.y; z = c.in-Some.triple.z; first = c.in_ok-first_exposure.field-0; second = c.in_ok-first_exposure-2.field-0; back = c.from_vec.result } in
    subst (λ (paths : List Path). IsLeastDanger paths d) c.self.view_is (danger-right g.paths.now g.edges g.vulnerable g.reach c.self.invariant d c.in-Some.triple refl refl refl c.in-Some.ensures.found c.in_ok-first_exposure.ensures c.in_ok-first_exposure-2.ensures back)
