use Rattle.std.proofs.Common.{◌≡◌, ◌<◌, ◌≤ℤ◌, ◌<ℤ◌, ◌+◌, ◌∙◌, length, sym, subst, arith, of_z, to_z, w64}
use Rattle.std.proofs.lemmas.Bool.{false≢true}
use Rattle.std.proofs.lemmas.Int.{ints}
use Rattle.order_facts.specs.Chain.{ceiling_of}
use Rattle.order_facts.specs.Reaches.{fact_at}
use Rattle.order_facts.proofs.Places.{fact_at-default}
use Rattle.order_facts.proofs.Sampling.{IsHighSoFar, high-start, high-lower, high-keep, high-end}
use Rattle.order_facts.proofs.sample.high_bound.Goals as goal
use Rattle.order_facts.proofs.sample.high_bound.Goals.{then-ceiling-high+then-leads_from, else-ceiling-high, else-ceiling-high-via-then-ceiling-high+else-leads_from, else-ceiling-high-via-else-ceiling-high}

pub loop-to-init : goal.loop-to-init
loop-to-init c =
    let e : to_z w64 (of_z w64 c.highest-high.result) ≡ c.highest-high.result = omega (arith, ints) in
    high-start c.args.facts.now c.args.node _ (e ∙ c.highest-high.ensures)

pub loop-to-preserved : goal.loop-to-preserved
loop-to-preserved c =
    let fs = c.args.facts.now in
    let node = c.args.node in
    let to = c.loop-to.to in
    let inside : to < length fs = omega arith in
    let same : to_z w64 (of_z w64 c.highest-ceiling.result) ≡ c.highest-ceiling.result = omega (arith, ints) in
    let ceiling : c.highest-ceiling.result ≡ ceiling_of (fact_at fs to).hi = rw (fact_at-default fs to _ inside) at c.highest-ceiling.ensures in
    elim c.if-ceiling-high.branch [
      | then-ceiling-high+then-leads_from w ↦ (
          let falls : c.highest-ceiling.result <ℤ to_z w64 c.loop-to.high-bits = omega (arith, ints) in
          subst (λ z. IsHighSoFar fs node (to + 1) z) (sym (w.high-is ∙ same)) (high-lower fs node to _ _ inside c.loop-to.invariant ceiling falls (sym w.leads_from.ensures ∙ w.if-leads_from.true)))
      | else-ceiling-high w ↦ subst (λ z. IsHighSoFar fs node (to + 1) z) (sym w.high-is) (high-keep fs node to _ c.loop-to.invariant (elim w.else-ceiling-high.branch [
        | else-ceiling-high-via-then-ceiling-high+else-leads_from w' ↦ (λ r. absurd (false≢true (sym w'.if-leads_from.false ∙ w'.leads_from.ensures ∙ r)))
        | else-ceiling-high-via-else-ceiling-high w' ↦ (λ _. let high : to_z w64 c.loop-to.high-bits ≤ℤ c.highest-ceiling.result = omega (arith, ints) in subst (λ z. to_z w64 c.loop-to.high-bits ≤ℤ z) ceiling high)
      ]))
    ]

pub returns-clause-least : goal.returns-clause-least
returns-clause-least c = high-end c.args.facts.now c.args.node c.loop-to.to _ (omega arith) c.loop-to.invariant
