use Rattle.std.proofs.Common.{◌≡◌, ◌<◌, ◌+◌, ℕ, get_or, length, ap, arith}
use Rattle.std.proofs.lemmas.List.{get_or_read}
use Rattle.order_facts.proofs.WordRows.{joins_more}
use Rattle.order_facts.proofs.square.join_others.Goals as goal

pub loop-k-preserved : goal.loop-k-preserved
loop-k-preserved c =
    let old = c.args.words.now.items in
    let now = c.loop-k.words.items in
    let others = c.args.others.now in
    let into = c.args.into in
    let k = c.loop-k.k in
    let inside : k < c.args.count = omega arith in
    let written : into + k < length now = omega (arith, c.requires.into, c.loop-k.invariant.size, inside) in
    let first : k ≡ 0 + k = omega arith in
    joins_more old now others into 0 k c.index_mut.result.now (get_or others k 0) c.loop-k.invariant written
    (get_or_read now (into + k) c.index_mut.result.now written c.index_mut.ensures.value 0) (ap (λ (p : ℕ). get_or others p 0) first)
