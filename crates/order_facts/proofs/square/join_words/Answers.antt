use Rattle.std.proofs.Common.{◌<◌, ◌+◌, ◌∙◌, length, arith}
use Rattle.std.proofs.lemmas.List.{get_or_read}
use Rattle.order_facts.proofs.WordRows.{joins_more, unwritten}
use Rattle.order_facts.proofs.square.join_words.Goals as goal

pub loop-k-preserved : goal.loop-k-preserved
loop-k-preserved c =
    let old = c.args.words.now.items in
    let now = c.loop-k.words.items in
    let into = c.args.into in
    let from = c.args.from in
    let k = c.loop-k.k in
    let inside : k < c.args.count = omega arith in
    let written : into + k < length now = omega (arith, c.requires.into, c.loop-k.invariant.size, inside) in
    let read : from + k < length now = omega (arith, c.requires.from, c.loop-k.invariant.size, inside) in
    joins_more old now old into from k c.index_mut.result.now c.index.result.now c.loop-k.invariant written
    (get_or_read now (into + k) c.index_mut.result.now written c.index_mut.ensures.value 0)
    (get_or_read now (from + k) c.index.result.now read c.index.ensures 0 ∙ unwritten old now old into from k c.loop-k.invariant (λ j l. c.requires.apart j k l inside))
