use Rattle.std.proofs.Common.{◌≡◌, ◌<◌, ◌+◌, ◌*◌, ◌/◌, ◌%◌, ◌^◌, ℕ, bit_and, ap, ◌∙◌, arith}
use Rattle.std.specs.Prelude.{◌==◌}
use Rattle.std.proofs.lemmas.List.{get_or_read}
use Rattle.order_facts.specs.Square.{Grid, entry}
use Rattle.order_facts.proofs.WordRows.{in_words, bit_read}
use Rattle.order_facts.proofs.square.Square.get.Goals as goal

pub returns : goal.returns
returns c =
    let m = c.self.inside in
    let words = m.words.items in
    let from = c.args.from in
    let to = c.args.to in
    let same : m.size ≡ c.args.self.now.size = ap (λ (g : Grid). g.size) c.self.view_is in
    let p : from < m.size = omega (arith, same, c.requires.from) in
    let q : to < m.size = omega (arith, same, c.requires.to) in
    let inside = in_words m.size m.width from to words c.self.invariant p q in
    let read = get_or_read words (from * m.width + to / 64) c.index-word.result.now inside c.index-word.ensures 0 in
    ap (λ (w : ℕ). bit_and (w / 2 ^ (to % 64)) 1 == 1) read
    ∙ bit_read m.size m.width words from to p q
    ∙ ap (λ (g : Grid). entry g from to) c.self.view_is
