use Rattle.std.proofs.Common.{◌≡◌, ◌<◌, ◌≤ℤ◌, ◌<ℤ◌, ◌+◌, ◌∙◌, length, sym, subst, arith, of_z, to_z, w64}
use Rattle.std.proofs.lemmas.Bool.{false≢true}
use Rattle.std.proofs.lemmas.Int.{ints}
use Rattle.order_facts.specs.Chain.{floor_of}
use Rattle.order_facts.specs.Reaches.{fact_at}
use Rattle.order_facts.proofs.Places.{fact_at-default}
use Rattle.order_facts.proofs.Sampling.{IsLowSoFar, low-start, low-raise, low-keep, low-end}
use Rattle.order_facts.proofs.sample.low_bound.Goals as goal
use Rattle.order_facts.proofs.sample.low_bound.Goals.{then-floor-low+then-leads_to, else-floor-low, else-floor-low-via-then-floor-low+else-leads_to, else-floor-low-via-else-floor-low}

pub loop-from-init : goal.loop-from-init
loop-from-init c =
    let e : to_z w64 (of_z w64 c.lowest-low.result) ≡ c.lowest-low.result = omega (arith, ints) in
    low-start c.args.facts.now c.args.node _ (e ∙ c.lowest-low.ensures)

pub loop-from-preserved : goal.loop-from-preserved
loop-from-preserved c =
    let fs = c.args.facts.now in
    let node = c.args.node in
    let from = c.loop-from.from in
    let inside : from < length fs = omega arith in
    let same : to_z w64 (of_z w64 c.lowest-floor.result) ≡ c.lowest-floor.result = omega (arith, ints) in
    let floor : c.lowest-floor.result ≡ floor_of (fact_at fs from).lo = rw (fact_at-default fs from _ inside) at c.lowest-floor.ensures in
    elim c.if-floor-low.branch [
      | then-floor-low+then-leads_to w ↦ (
          let rises : to_z w64 c.loop-from.low-bits <ℤ c.lowest-floor.result = omega (arith, ints) in
          subst (λ z. IsLowSoFar fs node (from + 1) z) (sym (w.low-is ∙ same)) (low-raise fs node from _ _ inside c.loop-from.invariant floor rises (sym w.leads_to.ensures ∙ w.if-leads_to.true)))
      | else-floor-low w ↦ subst (λ z. IsLowSoFar fs node (from + 1) z) (sym w.low-is) (low-keep fs node from _ c.loop-from.invariant (elim w.else-floor-low.branch [
        | else-floor-low-via-then-floor-low+else-leads_to w' ↦ (λ r. absurd (false≢true (sym w'.if-leads_to.false ∙ w'.leads_to.ensures ∙ r)))
        | else-floor-low-via-else-floor-low w' ↦ (λ _. let low : c.lowest-floor.result ≤ℤ to_z w64 c.loop-from.low-bits = omega (arith, ints) in subst (λ z. z ≤ℤ to_z w64 c.loop-from.low-bits) floor low)
      ]))
    ]

pub returns-clause-greatest : goal.returns-clause-greatest
returns-clause-greatest c = low-end c.args.facts.now c.args.node c.loop-from.from _ (omega arith) c.loop-from.invariant
