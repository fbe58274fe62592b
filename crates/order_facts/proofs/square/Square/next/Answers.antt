use Rattle.std.proofs.Common.{◌≡◌, ◌≤◌, ◌+◌, ◌*◌, ◌/◌, ◌%◌, ℕ, ap, subst, arith}
use Rattle.std.proofs.lemmas.List.{get_or_read}
use Rattle.order_facts.specs.Square.{Grid}
use Rattle.order_facts.specs.Words.{IsNextBit}
use Rattle.order_facts.proofs.WordRows.{in_words, none-joined, next-missing, next-joined}
use Rattle.order_facts.proofs.square.Square.next.Goals as goal

pub returns-then-to-self-clause-found : goal.returns-then-to-self-clause-found
returns-then-to-self-clause-found c =
    let m = c.self.inside in
    let words = m.words.items in
    let from = c.args.from in
    let at = c.loop-at.at in
    let same : m.size ≡ c.args.self.now.size = ap (λ (g : Grid). g.size) c.self.view_is in
    let place = in_words m.size m.width from at words c.self.invariant (omega (arith, same, c.requires)) c.loop-at-test.true in
    let read = get_or_read words (from * m.width + at / 64) c.index-word.result.now place c.index-word.ensures 0 in
    let next = subst (λ (w : ℕ). IsNextBit w (at % 64) c.in-Some.bit) read c.in-Some.ensures.found in
    next-joined m.size m.width words c.args.self.now from c.args.start at c.self.view_is c.loop-at.invariant.none c.in-Some.bit next c.requires c.loop-at.invariant.on c.if-to-self.true

pub returns-else-to-self-clause-none : goal.returns-else-to-self-clause-none
returns-else-to-self-clause-none c =
    let m = c.self.inside in
    let words = m.words.items in
    let from = c.args.from in
    let at = c.loop-at.at in
    let same : m.size ≡ c.args.self.now.size = ap (λ (g : Grid). g.size) c.self.view_is in
    let place = in_words m.size m.width from at words c.self.invariant (omega (arith, same, c.requires)) c.loop-at-test.true in
    let read = get_or_read words (from * m.width + at / 64) c.index-word.result.now place c.index-word.ensures 0 in
    let next = subst (λ (w : ℕ). IsNextBit w (at % 64) c.in-Some.bit) read c.in-Some.ensures.found in
    let end : m.size ≤ at / 64 * 64 + c.in-Some.bit = omega (arith, c.if-to-self.false) in
    next-missing m.size m.width words c.args.self.now from c.args.start at c.self.view_is c.loop-at.invariant.none c.in-Some.bit next end

pub returns-clause-none : goal.returns-clause-none
returns-clause-none c =
    let m = c.self.inside in
    let end : m.size ≤ c.loop-at.at = omega (arith, c.loop-at-test.false) in
    none-joined m.size m.width m.words.items c.args.self.now c.args.from c.args.start c.loop-at.at c.self.view_is c.loop-at.invariant.none end
