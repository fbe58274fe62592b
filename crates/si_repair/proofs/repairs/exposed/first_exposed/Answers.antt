use Rattle.std.proofs.Common.{◌∙◌, List, [], ap, sym, subst, arith}
use Rattle.std.specs.Prelude.{None, slice_get}
use Rattle.std.proofs.lemmas.List.{take_all}
use Rattle.prog_paths.specs.declared.accesses.places.Placed.{Placed}
use Rattle.prog_paths.specs.declared.accesses.questions.Question.{Question}
use Rattle.si_repair.specs.Exposed.{AreExposedAmong}
use Rattle.si_repair.proofs.Exposed.{among-no_firsts, same_places}
use Rattle.si_repair.proofs.Firsts.{found_next, none_next, first-from_places}
use Rattle.si_repair.proofs.repairs.exposed.first_exposed.Goals as goal

pub loop-place-init : goal.loop-place-init
loop-place-init c = among-no_firsts c.args.paths.now c.as_slice-changes.result.now

pub exposed_to-requires-clause-first : goal.exposed_to-requires-clause-first
exposed_to-requires-clause-first c =
    let places = same_places c.args.paths.now c.args.pair _ _ _ _ c.as_slice-reads.ensures.value c.as_slice-changes.ensures.value c.in_ok-places.ensures in
    places.reads_stand c.loop-place.place-index _ (omega (arith, c.loop-place-test.true))

pub exposed_to-requires-clause-seconds : goal.exposed_to-requires-clause-seconds
exposed_to-requires-clause-seconds c =
    let places = same_places c.args.paths.now c.args.pair _ _ _ _ c.as_slice-reads.ensures.value c.as_slice-changes.ensures.value c.in_ok-places.ensures in
    places.changes_stand

pub returns-then-is_some : goal.returns-then-is_some
returns-then-is_some c =
    let nodes = c.args.paths.now in
    let reads = c.as_slice-reads.result.now in
    let changes = c.as_slice-changes.result.now in
    let found = c.copied-found.result in
    let places = same_places c.args.paths.now c.args.pair _ _ _ _ c.as_slice-reads.ensures.value c.as_slice-changes.ensures.value c.in_ok-places.ensures in
    let first = c.copied-found.ensures ∙ c.first.ensures.value ∙ ap (λ (l : List Question). slice_get l 0) c.deref.ensures.value in
    first-from_places nodes c.args.pair reads changes places.of_first places.of_second found
    (found_next nodes c.loop-place.place-index reads changes _ (omega (arith, c.loop-place-test.true)) c.loop-place.invariant c.in_ok-questions.questions.items found
    first (sym c.is_some.ensures ∙ c.if-is_some.true) c.in_ok-questions.ensures)

pub loop-place-preserved : goal.loop-place-preserved
loop-place-preserved c =
    let first = c.copied-found.ensures ∙ c.first.ensures.value ∙ ap (λ (l : List Question). slice_get l 0) c.deref.ensures.value in
    none_next c.args.paths.now c.loop-place.place-index c.as_slice-reads.result.now c.as_slice-changes.result.now _ (omega (arith, c.loop-place-test.true)) c.loop-place.invariant c.in_ok-questions.questions.items c.copied-found.result
    first (sym c.is_some.ensures ∙ c.if-is_some.false) c.in_ok-questions.ensures

pub returns : goal.returns
returns c =
    let nodes = c.args.paths.now in
    let reads = c.as_slice-reads.result.now in
    let changes = c.as_slice-changes.result.now in
    let places = same_places c.args.paths.now c.args.pair _ _ _ _ c.as_slice-reads.ensures.value c.as_slice-changes.ensures.value c.in_ok-places.ensures in
    first-from_places nodes c.args.pair reads changes places.of_first places.of_second None
    (subst (λ (l : List Placed). AreExposedAmong nodes l changes []) (take_all c.loop-place.place-index reads (omega (arith, c.loop-place-test.false))) c.loop-place.invariant)
