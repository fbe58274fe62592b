use Rattle.std.proofs.Common.{◌≡◌, ◌<◌, ℕ, ◌∙◌, subst, arith}
use Rattle.order_facts.specs.Square.{entry}
use Rattle.dep_graph.proofs.Closing.{leads_through, entries-first, entries-next, IsReachOf-from_through}
use Rattle.dep_graph.proofs.closure.close.Goals as goal

pub loop-through-init : goal.loop-through-init
loop-through-init c = let first = c.in_ok-reach.ensures in record { size = first.size; entries = entries-first _ _ first }

pub loop-through-preserved : goal.loop-through-preserved
loop-through-preserved c =
    let edges = c.args.edges.now in
    let old = c.loop-through.reach in
    let k = c.loop-through.through in
    let inside : k < edges.size = omega arith in
    record {
      size = c.join.ensures.size ∙ c.loop-through.invariant.size;
      entries = entries-next old c.join.new.self edges k c.loop-through.invariant.size inside c.loop-through.invariant.entries c.join.ensures;
    }

pub returns : goal.returns
returns c =
    let edges = c.args.edges.now in
    let reach = c.loop-through.reach in
    let all : c.loop-through.through ≡ edges.size = omega arith in
    IsReachOf-from_through reach edges c.loop-through.invariant.size (subst (λ n. (i j : ℕ) → i < edges.size → j < edges.size → entry reach i j ≡ leads_through (entry edges) n i j) all c.loop-through.invariant.entries)
