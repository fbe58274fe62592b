use Rattle.std.proofs.Common.{◌≡◌, ◌<◌, ◌≤ℤ◌, ◌<ℤ◌, ◌⊎◌, inl, inr, length, true, sym, ◌∙◌, arith, below_more}
use Rattle.std.proofs.lemmas.Bool.{false≢true, eq-eqb}
use Rattle.std.proofs.lemmas.Int.{ints}
use Rattle.prog_tree.specs.Number.{least, greatest}
use Rattle.order_facts.specs.Chain.{floor_of, ceiling_of}
use Rattle.order_facts.specs.Reaches.{reaches, fact_at}
use Rattle.order_facts.proofs.Places.{fact_at-default, contradiction-from_facts}
use Rattle.order_facts.proofs.ways.row_is_orderly.Goals as goal
use Rattle.order_facts.proofs.ways.row_is_orderly.Goals.{else-highest-floor-via-then-highest-floor+else-get, then-to-from, else-to-from, else-highest-floor-via-else-highest-floor}

pub returns-then-get-clause-contradiction : goal.returns-then-get-clause-contradiction
returns-then-get-clause-contradiction c =
    let fs = c.args.facts.now in
    let from = c.args.from in
    let to = c.loop-to.to in
    let inside : to < length fs = omega arith in
    let high : c.highest.result ≡ ceiling_of (fact_at fs to).hi = rw (fact_at-default fs to _ inside) at c.highest.ensures in
    let low : c.lowest-floor.result ≡ floor_of (fact_at fs from).lo = rw (fact_at-default fs from _ c.requires.from) at c.lowest-floor.ensures in
    let above : least ≤ℤ c.highest.result = omega (arith, ints) in
    let below : c.lowest-floor.result ≤ℤ greatest = omega (arith, ints) in
    let falls : c.highest.result <ℤ c.lowest-floor.result = omega (arith, ints) in
    let follows : (to ≡ from) ⊎ (reaches fs (fact_at fs from).hi (fact_at fs to).lo ≡ true) = elim c.if-to-from.branch [
      | then-to-from w ↦ inl w.if-to-from.true
      | else-to-from w ↦ inr (sym (c.requires.matrix.entries from to (omega (arith, c.requires.matrix.size)) (omega (arith, c.requires.matrix.size))) ∙ sym w.get.ensures ∙ sym w.value-is ∙ c.if-get.true)
    ] in
    λ _. contradiction-from_facts fs from to c.requires.from inside follows (rw (← high, ← low) falls) (rw (← high) above) (rw (← low) below)

pub loop-to-preserved : goal.loop-to-preserved
loop-to-preserved c =
    let fs = c.args.facts.now in
    let from = c.args.from in
    let to = c.loop-to.to in
    let inside : to < length fs = omega arith in
    let high : c.highest.result ≡ ceiling_of (fact_at fs to).hi = rw (fact_at-default fs to _ inside) at c.highest.ensures in
    let low : c.lowest-floor.result ≡ floor_of (fact_at fs from).lo = rw (fact_at-default fs from _ c.requires.from) at c.lowest-floor.ensures in
    below_more _ _ c.loop-to.invariant (elim c.else-highest-floor.branch [
      | else-highest-floor-via-then-highest-floor+else-get w ↦ elim w.if-to-from.branch [
        | then-to-from w' ↦ absurd (false≢true (sym w.if-get.false ∙ w'.value-is ∙ eq-eqb to from w'.if-to-from.true))
        | else-to-from w' ↦ (λ follows. absurd (elim follows [
          | inl e ↦ w'.if-to-from.false e
          | inr r ↦ false≢true (sym w.if-get.false ∙ w'.value-is ∙ w'.get.ensures ∙ c.requires.matrix.entries from to (omega (arith, c.requires.matrix.size)) (omega (arith, c.requires.matrix.size)) ∙ r)
        ]))
      ]
      | else-highest-floor-via-else-highest-floor w ↦ (λ _. let rises : c.lowest-floor.result ≤ℤ c.highest.result = omega (arith, ints) in rw (← high, ← low) rises)
    ])
