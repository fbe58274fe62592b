use Rattle.std.proofs.Common.{ℕ, List, [], ◌++◌, ◌∙◌, inl, inr, refl, ap, sym, subst, arith}
use Rattle.std.specs.Prelude.{All, Option, slice_get}
use Rattle.std.proofs.lemmas.Bool.{eqb-true}
use Rattle.std.proofs.lemmas.List.{nil_from_length}
use Rattle.prog_paths.specs.declared.accesses.questions.Question.{Question}
use Rattle.repair_laws.specs.Keys.{IsKeyOf}
use Rattle.si_repair.specs.Key.{IsMissed, AreForced}
use Rattle.si_repair.proofs.Exposed.{among-no_firsts, more-firsts, same_places}
use Rattle.si_repair.proofs.Ranking.{AreForced-none, IsKeyOf-among, missed_by}
use Rattle.si_repair.proofs.repairs.key.key_of.Goals as goal

pub loop-read-init : goal.loop-read-init
loop-read-init c =
    ([], among-no_firsts c.args.paths.now c.as_slice-changes.result.now, AreForced-none c.args.paths.now c.args.first_count c.args.second_count c.in_ok-pairs.pairs.items c.in_ok-pairs.ensures)

-- no parameters are left
pub returns-then-is_empty : goal.returns-then-is_empty
returns-then-is_empty c =
    let nodes = c.args.paths.now in
    let firsts = c.args.first_count in
    let seconds = c.args.second_count in
    let pairs = c.loop-read.pairs in
    let h = c.loop-read.invariant in
    let none_left = nil_from_length pairs.items (sym pairs.ok.0 ∙ eqb-true pairs.len 0 (sym c.is_empty.ensures ∙ c.if-is_empty.true)) in
    let places = same_places c.args.paths.now c.args.pair _ _ _ _ c.as_slice-reads.ensures.value c.as_slice-changes.ensures.value c.in_ok-places.ensures in
    subst (λ (l : List (ℕ × ℕ)). IsKeyOf nodes c.args.pair firsts seconds (slice_get l 0)) none_left
    (IsKeyOf-among nodes c.args.pair c.as_slice-reads.result.now c.as_slice-changes.result.now places.of_first places.of_second firsts seconds pairs.items
    (record { asked = c.loop-read.read-index; questions = h.0; exposed = h.1; forced = h.2; all = inr none_left }))

pub exposed_to-requires-clause-first : goal.exposed_to-requires-clause-first
exposed_to-requires-clause-first c =
    let places = same_places c.args.paths.now c.args.pair _ _ _ _ c.as_slice-reads.ensures.value c.as_slice-changes.ensures.value c.in_ok-places.ensures in
    places.reads_stand c.loop-read.read-index _ (omega (arith, c.loop-read-test.true))

pub exposed_to-requires-clause-seconds : goal.exposed_to-requires-clause-seconds
exposed_to-requires-clause-seconds c =
    let places = same_places c.args.paths.now c.args.pair _ _ _ _ c.as_slice-reads.ensures.value c.as_slice-changes.ensures.value c.in_ok-places.ensures in
    places.changes_stand

pub left_of-requires-clause-missed : goal.left_of-requires-clause-missed
left_of-requires-clause-missed c =
    let nodes = c.args.paths.now in
    let places = same_places c.args.paths.now c.args.pair _ _ _ _ c.as_slice-reads.ensures.value c.as_slice-changes.ensures.value c.in_ok-places.ensures in
    subst (λ (l : List Question). All (λ (q : Question). IsMissed nodes q) l) (sym c.deref.ensures.value)
    (missed_by nodes _ c.as_slice-changes.result.now c.in_ok-questions.questions.items (places.reads_stand c.loop-read.read-index _ (omega (arith, c.loop-read-test.true))) places.changes_stand c.in_ok-questions.ensures)

pub loop-read-preserved : goal.loop-read-preserved
loop-read-preserved c =
    let nodes = c.args.paths.now in
    let h = c.loop-read.invariant in
    let questions = c.in_ok-questions.questions.items in (
      h.0 ++ questions,
      more-firsts nodes c.loop-read.read-index c.as_slice-reads.result.now c.as_slice-changes.result.now _ h.0 questions (h.0 ++ questions) (omega (arith, c.loop-read-test.true)) c.in_ok-questions.ensures refl h.1,
      subst (λ (l : List Question). AreForced nodes (h.0 ++ l) c.args.first_count c.args.second_count c.in_ok-pairs-2.pairs.items) c.deref.ensures.value (c.in_ok-pairs-2.ensures h.0 c.args.first_count c.args.second_count h.2),
    )

pub returns : goal.returns
returns c =
    let nodes = c.args.paths.now in
    let firsts = c.args.first_count in
    let seconds = c.args.second_count in
    let h = c.loop-read.invariant in
    let places = same_places c.args.paths.now c.args.pair _ _ _ _ c.as_slice-reads.ensures.value c.as_slice-changes.ensures.value c.in_ok-places.ensures in
    let found = c.copied.ensures ∙ c.first.ensures.value ∙ ap (λ (l : List (ℕ × ℕ)). slice_get l 0) c.as_slice-left.ensures.value in
    subst (λ (o : Option (ℕ × ℕ)). IsKeyOf nodes c.args.pair firsts seconds o) (sym found)
    (IsKeyOf-among nodes c.args.pair c.as_slice-reads.result.now c.as_slice-changes.result.now places.of_first places.of_second firsts seconds c.loop-read.pairs.items
    (record { asked = c.loop-read.read-index; questions = h.0; exposed = h.1; forced = h.2; all = inl (omega (arith, c.loop-read-test.false)) }))
