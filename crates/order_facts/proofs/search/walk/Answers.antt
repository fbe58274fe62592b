use Rattle.std.proofs.Common.{refl, arith, length-append, ◌∷◌, []}
use Rattle.order_facts.specs.Search.{reached_at}
use Rattle.order_facts.proofs.Chains.{IsChain-push}
use Rattle.order_facts.proofs.Levels.{next-leads_nearer, next-step}
use Rattle.order_facts.proofs.search.walk.Goals as goal

pub loop-at-preserved : goal.loop-at-preserved
loop-at-preserved c =
    let reached = c.args.reached.now in
    let at = c.loop-at.at in
    let p = c.loop-at.invariant.place in
    let on = next-leads_nearer reached p.0 at c.requires.descending p.1 p.2 c.loop-at-test.true in
    let fewer = on.1 in
    let longer = length-append c.loop-at.chain.items ((reached_at reached at.next).node ∷ []) in
    record {
      place = (at.next, on.0, refl);
      short = rw c.in_ok-push-3.ensures.items (omega (arith, c.loop-at.invariant.short));
      chain = λ facts y trail step.
          let before = c.loop-at.invariant.chain facts y trail step in
          rw c.in_ok-push-3.ensures.items (IsChain-push facts c.loop-at.chain.items c.args.x at.node (reached_at reached at.next).node before.0 before.1 (next-step facts y reached p.0 at trail p.1 p.2 c.loop-at-test.true));
    }
