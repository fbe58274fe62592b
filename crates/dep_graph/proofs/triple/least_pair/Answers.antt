use Rattle.dep_graph.proofs.Nexts.{ClosesBehind, first-from_behind, next-passed, none-left, IsLeastPair-from_next}
use Rattle.dep_graph.proofs.triple.least_pair.Goals as goal

pub returns-in-Some-least_end-clause-found : goal.returns-in-Some-least_end-clause-found
returns-in-Some-least_end-clause-found c = IsLeastPair-from_next c.args.vulnerable.now c.args.reach.now c.args.x c.loop-y.start c.in-Some.y c.in-Some-least_end.z c.in-Some.ensures.found c.loop-y.invariant c.in-Some-least_end.ensures.found

pub loop-y-preserved : goal.loop-y-preserved
loop-y-preserved c =
    let v = c.args.vulnerable.now in
    let r = c.args.reach.now in
    let x = c.args.x in
    next-passed (ClosesBehind v r x) v x c.loop-y.start (first-from_behind v r x) c.loop-y.invariant c.in-Some.y c.in-Some.ensures.found (λ p. c.in_default-least_end.ensures.none p.0 p.1)

pub returns-clause-none : goal.returns-clause-none
returns-clause-none c =
    let v = c.args.vulnerable.now in
    let r = c.args.reach.now in
    let x = c.args.x in
    λ y z p. none-left (ClosesBehind v r x) v x c.loop-y.start (first-from_behind v r x) c.loop-y.invariant c.in_default.ensures.none y (z, p)
