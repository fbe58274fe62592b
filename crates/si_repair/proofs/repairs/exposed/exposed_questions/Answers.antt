use Rattle.std.proofs.Common.{◌∙◌, ◌++◌, List, ap, arith, subst}
use Rattle.std.proofs.lemmas.List.{take_all}
use Rattle.prog_paths.specs.declared.accesses.places.Placed.{Placed}
use Rattle.prog_paths.specs.declared.accesses.questions.Question.{Question}
use Rattle.si_repair.specs.Exposed.{AreExposedAmong}
use Rattle.si_repair.proofs.Exposed.{same_places, more-firsts, AreExposed-from_places}
use Rattle.si_repair.proofs.repairs.exposed.exposed_questions.Goals as goal

pub exposed_to-requires-clause-first : goal.exposed_to-requires-clause-first
exposed_to-requires-clause-first c =
    let places = same_places c.args.paths.now c.args.pair _ _ _ _ c.as_slice-reads.ensures.value c.as_slice-changes.ensures.value c.in_ok-places.ensures in
    places.reads_stand c.loop-read.read-index _ (omega (arith, c.loop-read-test.true))

pub exposed_to-requires-clause-seconds : goal.exposed_to-requires-clause-seconds
exposed_to-requires-clause-seconds c =
    let places = same_places c.args.paths.now c.args.pair _ _ _ _ c.as_slice-reads.ensures.value c.as_slice-changes.ensures.value c.in_ok-places.ensures in
    places.changes_stand

pub loop-read-preserved : goal.loop-read-preserved
loop-read-preserved c =
    let before = c.loop-read.questions.items in
    more-firsts c.args.paths.now c.loop-read.read-index c.as_slice-reads.result.now c.as_slice-changes.result.now _ before c.in_ok-exposed.exposed.items c.extend_from_slice.new.self.items (omega (arith, c.loop-read-test.true)) c.in_ok-exposed.ensures
    (c.in_ok-extend_from_slice.ensures.items ∙ ap (λ (l : List Question). before ++ l) c.deref.ensures.value) c.loop-read.invariant

pub returns : goal.returns
returns c =
    let nodes = c.args.paths.now in
    let reads = c.as_slice-reads.result.now in
    let changes = c.as_slice-changes.result.now in
    let questions = c.loop-read.questions.items in
    let places = same_places c.args.paths.now c.args.pair _ _ _ _ c.as_slice-reads.ensures.value c.as_slice-changes.ensures.value c.in_ok-places.ensures in
    AreExposed-from_places nodes c.args.pair reads changes places.of_first places.of_second questions
    (subst (λ (l : List Placed). AreExposedAmong nodes l changes questions) (take_all c.loop-read.read-index reads (omega (arith, c.loop-read-test.false))) c.loop-read.invariant)
