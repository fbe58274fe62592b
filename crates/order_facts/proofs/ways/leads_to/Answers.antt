use Rattle.std.proofs.Common.{◌<◌, length, sym, ◌∙◌, arith}
use Rattle.order_facts.proofs.Reach.{reaches-below}
use Rattle.order_facts.proofs.Places.{fact_at-default, reaches-by_last, reaches-no_last}
use Rattle.order_facts.proofs.ways.leads_to.Goals as goal

pub returns-then-is_below : goal.returns-then-is_below
returns-then-is_below c =
    let below = rw (fact_at-default c.args.facts.now c.args.from _ c.requires.from) at (sym c.is_below.ensures ∙ c.if-is_below.true) in
    sym (reaches-below c.args.facts.now _ _ below)

pub returns-then-is_below-2 : goal.returns-then-is_below-2
returns-then-is_below-2 c =
    let fs = c.args.facts.now in
    let to = c.loop-to.to in
    let inside : to < length fs = omega arith in
    let front = sym (c.requires.matrix.entries c.args.from to (omega (arith, c.requires.matrix.size)) (omega (arith, c.requires.matrix.size))) ∙ sym c.get.ensures ∙ c.if-get.true in
    let back = rw (fact_at-default fs to _ inside) at (sym c.is_below-then-get.ensures ∙ c.if-is_below-2.true) in
    sym (reaches-by_last fs _ _ to inside front back)

pub returns : goal.returns
returns c =
    let fs = c.args.facts.now in
    let apart = rw (fact_at-default fs c.args.from _ c.requires.from) at (sym c.is_below.ensures ∙ c.if-is_below.false) in
    sym (reaches-no_last fs _ _ apart (λ k h. c.loop-to.invariant k (omega arith)))
