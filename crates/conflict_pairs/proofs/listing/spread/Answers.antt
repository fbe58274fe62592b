use Rattle.std.proofs.Common.{◌≡◌, ℕ, ◌<◌, ◌+◌, get_or, set, refl, sym, subst, ◌∙◌}
use Rattle.std.proofs.lemmas.List.{length-set}
use Rattle.conflict_pairs.specs.declared.pairing.PlacePair.{PlacePair}
use Rattle.conflict_pairs.specs.ClassPairs.{IsInRow}
use Rattle.conflict_pairs.specs.Listed.{second_class}
use Rattle.conflict_pairs.proofs.Spreading.{SpreadsUpTo, spread-more}
use Rattle.conflict_pairs.proofs.listing.spread.Goals as goal

pub loop-k-preserved : goal.loop-k-preserved
loop-k-preserved c =
    let classes = c.args.classes.now in
    let pairs = c.args.pairs.now in
    let of_pairs = c.args.of_pairs.now in
    let row = c.args.row in
    let k = c.loop-k.k in
    let now = c.loop-k.answers.items in
    let in_row : IsInRow row k = record { behind = c.loop-k.auto.k; before = c.loop-k-test.true } in
    let none : PlacePair = record { first = 0; second = 0 } in
    let is : c.number_at-class.result ≡ second_class classes pairs k = c.number_at-class.ensures ∙ (λ i. get_or (c.deref.ensures.value i) (get_or pairs k none).second 0) in
    let inside = subst (λ (z : ℕ). second_class classes pairs k < z) (sym c.loop-k.invariant.size) (c.requires.classes k in_row).class_within in
    record {
      size = length-set now c.number_at-class.result (get_or of_pairs k 0) ∙ c.loop-k.invariant.size;
      entered =
          subst (λ (d : ℕ). SpreadsUpTo classes pairs of_pairs row (set now d (get_or of_pairs k 0)) (k + 1)) (sym is)
          (spread-more classes pairs of_pairs row now k (get_or of_pairs k 0) in_row inside refl c.loop-k.invariant.entered);
    }
