use Rattle.std.proofs.Common.{◌≡◌, ◌<◌, length, ◌==◌, false, rules, arith, tests, ◌∙◌, sym}
use Rattle.std.proofs.lemmas.Grind.{common_steps}
use Rattle.si_engine.proofs.LineLemmas.{words-cut}
use Rattle.si_engine.proofs.input.line_words.first_word.Goals as goal

pub returns-then-not-is_empty-clause-words : goal.returns-then-not-is_empty-clause-words
returns-then-not-is_empty-clause-words c =
    let some : 0 < length c.loop-rest.rest.now = grind (arith, common_steps) in
    let full : (length c.cut.result.0.now == 0) ≡ false = search (rules, tests) in
    sym c.loop-rest.invariant.words ∙ words-cut c.loop-rest.rest.now c.cut.result.0.now c.cut.result.1.now some c.cut.ensures.first c.cut.ensures.rest full
