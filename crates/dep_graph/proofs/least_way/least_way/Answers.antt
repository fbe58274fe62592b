use Rattle.std.proofs.Common.{◌≡◌, ◌<◌, ◌+◌, None, length, refl, sym, ◌∙◌, arith}
use Rattle.std.proofs.lemmas.Result.{IfOk-weaker}
use Rattle.std.proofs.lemmas.List.{get_or_read_under}
use Rattle.dep_graph.specs.Distances.{distance_at}
use Rattle.dep_graph.proofs.Rounds.{unknown-length, unknown-next, KnowsWithin-next}
use Rattle.dep_graph.proofs.least_way.least_way.Goals as goal

pub loop-steps-init : goal.loop-steps-init
loop-steps-init c = record {
  knows = c.in_ok-distances.ensures;
  few = omega (arith, unknown-length c.in_ok-distances.distances.items);
}

pub returns-in-Some : goal.returns-in-Some
returns-in-Some c =
    let walked = rw c.deref.ensures.value at c.walk.ensures in
    IfOk-weaker c.walk.result _ _ (λ way least. least c.args.end c.loop-steps.round c.loop-steps.invariant.knows) walked

pub loop-steps-smaller : goal.loop-steps-smaller
loop-steps-smaller c =
    let distances = c.loop-steps.distances.items in
    let next = rw c.deref-in-loop-steps.ensures.value at c.in_ok-distances-2.ensures in
    let inside : c.args.from < length distances = omega (arith, c.loop-steps.invariant.knows.size, c.requires.from) in
    let none : distance_at distances c.args.from ≡ None = sym (get_or_read_under distances c.args.from (length distances) c.index.result.now None c.index.ensures inside refl) ∙ c.in_default.is in
    unknown-next c.args.edges.now c.args.end c.loop-steps.round (c.loop-steps.round + 1) distances c.in_ok-distances-2.distances.items c.loop-steps.invariant.knows next c.args.from c.requires.leads none

pub loop-steps-preserved : goal.loop-steps-preserved
loop-steps-preserved c =
    let edges = c.args.edges.now in
    let distances = c.loop-steps.distances.items in
    let new = c.in_ok-distances-2.distances.items in
    let next = rw c.deref-in-loop-steps.ensures.value at c.in_ok-distances-2.ensures in
    let inside : c.args.from < length distances = omega (arith, c.loop-steps.invariant.knows.size, c.requires.from) in
    let none : distance_at distances c.args.from ≡ None = sym (get_or_read_under distances c.args.from (length distances) c.index.result.now None c.index.ensures inside refl) ∙ c.in_default.is in
    let fewer = unknown-next edges c.args.end c.loop-steps.round (c.loop-steps.round + 1) distances new c.loop-steps.invariant.knows next c.args.from c.requires.leads none in
    record {
      knows = KnowsWithin-next edges c.args.end c.loop-steps.round distances new c.loop-steps.invariant.knows next;
      few = omega (arith, next.size, c.loop-steps.invariant.few);
    }
