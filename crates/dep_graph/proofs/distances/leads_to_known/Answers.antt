use Rattle.std.proofs.Common.{◌≡◌, ℕ, Some, rules}
use Rattle.std.proofs.lemmas.Bool.{false≢true}
use Rattle.order_facts.specs.Square.{Joins}
use Rattle.dep_graph.specs.Distances.{distance_at}
use Rattle.dep_graph.proofs.Nexts.{next-passed, none-left}
use Rattle.dep_graph.proofs.distances.leads_to_known.Goals as goal

pub loop-next-preserved : goal.loop-next-preserved
loop-next-preserved c =
    let edges = c.args.edges.now in
    let known : ℕ → Type 0 = λ n. Joins edges c.args.node n × (steps : ℕ) × (distance_at c.args.distances.now n ≡ Some steps) in
    next-passed known edges c.args.node c.loop-next.start (λ n p. p.0) c.loop-next.invariant c.in-Some.next c.in-Some.ensures.found (λ p. let e = p.2 in search rules)

pub returns : goal.returns
returns c =
    let edges = c.args.edges.now in
    let known : ℕ → Type 0 = λ n. Joins edges c.args.node n × (steps : ℕ) × (distance_at c.args.distances.now n ≡ Some steps) in
    let none = none-left known edges c.args.node c.loop-next.start (λ n p. p.0) c.loop-next.invariant c.in_default.ensures.none in
    (λ e. absurd (false≢true e), λ k. absurd (none k.0 (k.1, k.2, k.3)))
