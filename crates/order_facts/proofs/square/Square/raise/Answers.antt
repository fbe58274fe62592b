use Rattle.std.proofs.Common.{◌≡◌, ◌+◌, ◌*◌, ◌/◌, ap, arith}
use Rattle.std.proofs.lemmas.List.{get_or_read}
use Rattle.order_facts.specs.Square.{Grid}
use Rattle.order_facts.proofs.WordRows.{in_words, bit_raised}
use Rattle.order_facts.proofs.square.Square.raise.Goals as goal

pub returns : goal.returns
returns c =
    let m = c.self.inside in
    let words = m.words.items in
    let from = c.args.from in
    let to = c.args.to in
    let same : m.size ≡ c.args.self.now.size = ap (λ (g : Grid). g.size) c.self.view_is in
    let inside = in_words m.size m.width from to words c.self.invariant (omega (arith, same, c.requires.from)) (omega (arith, same, c.requires.to)) in
    let read = get_or_read words (from * m.width + to / 64) c.index_mut.result.now inside c.index_mut.ensures.value 0 in
    bit_raised m.size m.width words c.args.self.now from to c.index_mut.result.now c.self.view_is c.self.invariant c.requires.from c.requires.to read
