use Rattle.std.proofs.Common.{◌<◌, length, arith}
use Rattle.order_facts.proofs.Levels.{IsSpreading-more, Spreads-from_all}
use Rattle.order_facts.proofs.search.spread.Goals as goal

pub loop-fact-preserved : goal.loop-fact-preserved
loop-fact-preserved c =
    let facts = c.args.facts.now in
    let old = c.args.reached.now.items in
    let k = c.loop-fact.fact-index in
    let inside : k < length facts = omega arith in
    let lo = rw c.loop-fact.invariant.known at c.in_ok-reach.ensures in
    let hi = rw c.loop-fact.invariant.known at c.in_ok-reach-2.ensures in
    record { known = c.loop-fact.invariant.known; spreading = IsSpreading-more facts old c.loop-fact.reached.items c.reach.new.reached.items _ c.args.steps k c.loop-fact.invariant.spreading lo hi }

pub returns : goal.returns
returns c = Spreads-from_all c.args.facts.now c.args.reached.now.items _ c.args.steps c.loop-fact.fact-index (omega arith) c.loop-fact.invariant.spreading
