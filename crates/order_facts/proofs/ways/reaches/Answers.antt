use Rattle.std.proofs.Common.{◌<◌, length, sym, ◌∙◌, arith}
use Rattle.order_facts.proofs.Reach.{reaches-below}
use Rattle.order_facts.proofs.Places.{fact_at-default, reaches-by_first, reaches-no_first}
use Rattle.order_facts.proofs.ways.reaches.Goals as goal

pub returns-then-is_below : goal.returns-then-is_below
returns-then-is_below c = sym (reaches-below c.args.facts.now _ _ (sym c.is_below.ensures ∙ c.if-is_below.true))

pub returns-then-leads_to : goal.returns-then-leads_to
returns-then-leads_to c =
    let fs = c.args.facts.now in
    let from = c.loop-from.from in
    let inside : from < length fs = omega arith in
    let front = rw (fact_at-default fs from _ inside) at (sym c.is_below-in-loop-from.ensures ∙ c.if-is_below-2.true) in
    sym (reaches-by_first fs _ _ from inside front (sym c.leads_to.ensures ∙ c.if-leads_to.true))

pub returns : goal.returns
returns c = sym (reaches-no_first c.args.facts.now _ _ (sym c.is_below.ensures ∙ c.if-is_below.false) (λ k h. c.loop-from.invariant k (omega arith)))
