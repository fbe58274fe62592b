use Rattle.std.proofs.Common.{◌≡◌, ℕ, ◌+◌, ◌-◌, ◌∷◌, [], List, Some, ap, subst, ◌∙◌, arith}
use Rattle.std.proofs.lemmas.List.{append_assoc, append-nil}
use Rattle.order_facts.specs.Square.{Joins}
use Rattle.dep_graph.specs.Ways.{IsLeastWay}
use Rattle.dep_graph.proofs.Onward.{some_nearer, IsLeastWay-end, IsLeastWay-onward}
use Rattle.dep_graph.proofs.least_way.walk.Goals as goal

pub nearer_node-at-requires-clause-some : goal.nearer_node-at-requires-clause-some
nearer_node-at-requires-clause-some c =
    let exact = c.requires.exact in
    let more : c.loop-left.left ≡ (c.loop-left.left - 1) + 1 = omega arith in
    some_nearer c.args.edges.now exact.0 exact.1 c.args.distances.now exact.2 c.loop-left.at (c.loop-left.left - 1) (c.loop-left.invariant.known ∙ ap Some more)

pub loop-left-preserved : goal.loop-left-preserved
loop-left-preserved c =
    let distances = c.args.distances.now in
    let edges = c.args.edges.now in
    let at = c.loop-left.at in
    let next = c.nearer_node-at.result in
    let more : c.loop-left.left ≡ (c.loop-left.left - 1) + 1 = omega arith in
    record {
      known = c.nearer_node-at.ensures.nearer.near;
      onward = λ end rounds knows rest least.
          let longer = IsLeastWay-onward edges end rounds distances knows at (c.loop-left.left - 1) next (c.loop-left.invariant.known ∙ ap Some more) c.nearer_node-at.ensures rest least in
          let whole = c.loop-left.invariant.onward end rounds knows (next ∷ rest) longer in
          rw (c.in_ok-push-2.ensures.items, append_assoc) whole;
    }

pub returns : goal.returns
returns c = λ end rounds knows.
    let none : c.loop-left.left ≡ 0 = omega arith in
    let last = IsLeastWay-end c.args.edges.now end rounds c.args.distances.now knows c.loop-left.at (c.loop-left.invariant.known ∙ ap Some none) in
    subst (λ (w : List ℕ). IsLeastWay (Joins c.args.edges.now) c.args.from end w) (append-nil c.loop-left.way.items) (c.loop-left.invariant.onward end rounds knows [] last)
