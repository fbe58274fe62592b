use Rattle.std.proofs.Common.{◌<◌, length, sym, ◌∙◌, arith}
use Rattle.order_facts.proofs.Reach.{reaches-below}
use Rattle.order_facts.proofs.Places.{fact_at-default, reaches-by_first, reaches-no_first}
use Rattle.order_facts.proofs.ways.leads_from.Goals as goal

pub returns-then-is_below : goal.returns-then-is_below
returns-then-is_below c =
    let below = rw (fact_at-default c.args.facts.now c.args.to _ c.requires.to) at (sym c.is_below.ensures ∙ c.if-is_below.true) in
    sym (reaches-below c.args.facts.now _ _ below)

pub returns-then-is_below-2 : goal.returns-then-is_below-2
returns-then-is_below-2 c =
    let fs = c.args.facts.now in
    let from = c.loop-from.from in
    let inside : from < length fs = omega arith in
    let back = sym (c.requires.matrix.entries from c.args.to (omega (arith, c.requires.matrix.size)) (omega (arith, c.requires.matrix.size))) ∙ sym c.get.ensures ∙ c.if-get.true in
    let front = rw (fact_at-default fs from _ inside) at (sym c.is_below-then-get.ensures ∙ c.if-is_below-2.true) in
    sym (reaches-by_first fs _ _ from inside front back)

pub returns : goal.returns
returns c =
    let fs = c.args.facts.now in
    let apart = rw (fact_at-default fs c.args.to _ c.requires.to) at (sym c.is_below.ensures ∙ c.if-is_below.false) in
    sym (reaches-no_first fs _ _ apart (λ k h. c.loop-from.invariant k (omega arith)))
