use Rattle.std.proofs.Common.{◌∙◌, ◌<◌, ◌++◌, ℕ, List, length, get_or, take, take_all, ap, sym, subst, arith}
use Rattle.std.proofs.lemmas.List.{get_or_read}
use Rattle.prog_paths.specs.declared.accesses.questions.Question.{Question}
use Rattle.prog_paths.specs.declared.accesses.places.Placed.{Placed}
use Rattle.prog_paths.specs.Questions.{asked_among, asked_by}
use Rattle.conflict_pairs.specs.declared.class_pairs.Row.{Row}
use Rattle.conflict_pairs.specs.declared.pairing.PlacePair.{PlacePair}
use Rattle.conflict_pairs.specs.Listed.{AnswersOf, AreQuestionsListed, SpreadsRow}
use Rattle.conflict_pairs.specs.Pairing.{StandsAt}
use Rattle.conflict_pairs.proofs.Entered.{listed-kept}
use Rattle.conflict_pairs.proofs.Entries.{among-take}
use Rattle.conflict_pairs.proofs.Paired.{changers-all}
use Rattle.conflict_pairs.proofs.Spreading.{answers-from_row, class-within, place-stands-at, places-stand, same-length, verdict-each}
use Rattle.conflict_pairs.proofs.listing.listed_of.Goals as goal

pub number_of-number-requires-clause-stands : goal.number_of-number-requires-clause-stands
number_of-number-requires-clause-stands c =
    place-stands-at c.args.paths.now c.args.classes.now c.requires.judged.classes _ (c.requires.firsts c.loop-first.first-index _ c.loop-first-test.true)

pub spread-requires-clause-one_each : goal.spread-requires-clause-one_each
spread-requires-clause-one_each c =
    ap (λ (l : List ℕ). length l) c.deref-in-loop-first.ensures.value
    ∙ verdict-each c.args.paths.now c.args.classes.now c.args.asked.now c.args.judged.now c.requires.judged
    ∙ sym (ap (λ (l : List PlacePair). length l) c.deref.ensures.value)

pub push_questions-requires-clause-seconds : goal.push_questions-requires-clause-seconds
push_questions-requires-clause-seconds c =
    let classes = c.args.classes.now in
    changers-all (StandsAt classes.starts.items classes.places.items) classes.places.items c.args.changers.now c.of_table-seconds.result.now _ c.of_table-seconds.ensures c.requires.changers
    (places-stand c.args.paths.now classes c.requires.judged.classes)

pub loop-first-preserved : goal.loop-first-preserved
loop-first-preserved c =
    let paths = c.args.paths.now in
    let classes = c.args.classes.now in
    let asked = c.args.asked.now in
    let judged = c.args.judged.now in
    let known_of = c.requires.judged in
    let places = classes.places.items in
    let verdicts = judged.values.items in
    let firsts = c.args.firsts.now in
    let i = c.loop-first.first-index in
    let n = c.number_of-number.result in
    let before = asked_among (take i firsts) places in
    let inside = c.number_of-number.ensures.within in
    let number_inside = subst (λ (z : ℕ). n < z) (sym (same-length paths classes asked judged known_of)) inside in
    let class_is = get_or_read classes.numbers.items n c.index.result.now number_inside c.index.ensures 0 in
    let row_inside = subst (λ (z : ℕ). z < length asked.rows.items) (sym class_is) (class-within paths classes asked judged known_of n number_inside) in
    let none : Row = record { start = 0; end = 0 } in
    let row_is = get_or_read asked.rows.items c.index.result.now c.index-row.result.now row_inside c.index-row.ensures none ∙ ap (λ (z : ℕ). get_or asked.rows.items z none) class_is in
    let spread =
    subst (λ (l : List ℕ). SpreadsRow classes asked.pairs.items l c.index-row.result.now c.spread.new.answers.items) c.deref-in-loop-first.ensures.value
    (subst (λ (l : List PlacePair). SpreadsRow classes l c.deref-in-loop-first.result.now c.index-row.result.now c.spread.new.answers.items) c.deref.ensures.value c.spread.ensures.spread) in
    let known =
    subst (λ (l : List ℕ). AnswersOf paths verdicts classes n l) (sym c.deref-in-loop-first-2.ensures.value)
    (answers-from_row paths classes asked judged known_of n c.index-row.result.now c.spread.new.answers.items inside row_is spread) in
    let kept = listed-kept paths verdicts places c.loop-first.listed _ before c.in_ok-reserve.ensures.items c.in_ok-reserve-2.ensures.items c.loop-first.invariant.listed in
    let seconds = c.of_table-seconds.result.now in
    record {
      size = c.spread.ensures.size ∙ c.loop-first.invariant.size;
      listed =
          subst (λ (l : List Question). AreQuestionsListed paths verdicts places c.push_questions.new.listed l)
          (ap (λ (p : Placed). before ++ asked_by p seconds) c.number_of-number.ensures.is
          ∙ among-take i firsts places seconds c.args.changers.now _ c.loop-first-test.true c.of_table-seconds.ensures c.requires.changers)
          (c.push_questions.ensures paths verdicts before known kept);
    }

pub returns : goal.returns
returns c =
    let places = c.args.classes.now.places.items in
    subst (λ (l : List Placed). AreQuestionsListed c.args.paths.now c.args.judged.now.values.items places c.loop-first.listed (asked_among l places)) (take_all c.loop-first.first-index c.args.firsts.now (omega arith)) c.loop-first.invariant.listed
