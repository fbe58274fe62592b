use Rattle.std.proofs.Common.{◌≡◌, suc, ◌+◌, subst, arith}
use Rattle.std.proofs.lemmas.Result.{IfOk-weaker}
use Rattle.order_facts.proofs.Shortest.{longer-chain}
use Rattle.order_facts.proofs.Levels.{IsLevel, IsLevel-next, below-rank}
use Rattle.order_facts.proofs.search.shortest_chain.Goals as goal

pub returns-in-Some-clause-chain : goal.returns-in-Some-clause-chain
returns-in-Some-clause-chain c =
    let found = rw c.deref.ensures.value at c.in-Some.ensures.found in
    let walked = rw c.deref-in-Some.ensures.value at c.walk.ensures.chain in
    IfOk-weaker c.walk.result _ _ (λ chain h. (h c.args.facts.now c.args.y c.loop-first.invariant.trail found.1).0) walked

pub returns-in-Some-clause-runs : goal.returns-in-Some-clause-runs
returns-in-Some-clause-runs c =
    let found = rw c.deref.ensures.value at c.in-Some.ensures.found in
    let walked = rw c.deref-in-Some.ensures.value at c.walk.ensures.chain in
    IfOk-weaker c.walk.result _ _ (λ chain h. (h c.args.facts.now c.args.y c.loop-first.invariant.trail found.1).1) walked

pub returns-in-Some-clause-fewest : goal.returns-in-Some-clause-fewest
returns-in-Some-clause-fewest c =
    let found = rw c.deref.ensures.value at c.in-Some.ensures.found in
    let deep = c.loop-first.invariant.deep c.in-Some.first found.0 in
    IfOk-weaker c.walk.result _ _ (λ chain short other o r. let long = longer-chain c.args.facts.now c.args.y c.loop-first.steps c.args.x c.loop-first.invariant.apart other o r in omega arith) (rw c.deref-in-Some.ensures.value at c.walk.ensures.length)

pub loop-first-smaller : goal.loop-first-smaller
loop-first-smaller c =
    let below = below-rank c.args.facts.now c.args.x c.args.y c.loop-first.steps c.requires c.loop-first.invariant.apart in
    omega arith

pub loop-first-preserved : goal.loop-first-preserved
loop-first-preserved c =
    let facts = c.args.facts.now in
    let one : suc c.loop-first.steps ≡ c.loop-first.steps + 1 = omega arith in
    let none = rw c.deref.ensures.value at c.in_default.ensures.none in
    let spreads = rw (← one) at c.in_ok-spread.ensures in
    subst (λ n. IsLevel facts c.args.x c.args.y c.spread.new.reached.items n) one (IsLevel-next facts c.args.x c.args.y c.loop-first.reached.items c.loop-first.steps c.loop-first.invariant none c.requires _ spreads)
