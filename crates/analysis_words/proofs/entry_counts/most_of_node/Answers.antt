use Rattle.std.proofs.Common.{◌≡◌, ◌<◌, ◌≤◌, ◌∙◌, ◌+◌, Some, get_or, sym, subst, arith}
use Rattle.std.proofs.lemmas.Option.{slice_get-get_or, slice_get_within}
use Rattle.prog_paths.specs.StaticGraph.{Precedes}
use Rattle.analysis_words.specs.Counts.{IsMostAmong, most_count}
use Rattle.analysis_words.proofs.Counts.{most-stays, most-grows, next-node}
use Rattle.analysis_words.proofs.entry_counts.most_of_node.Goals.{then-count-count_of, else-count-count_of}
use Rattle.analysis_words.proofs.entry_counts.most_of_node.Goals as goal

pub loop-access-init : goal.loop-access-init
loop-access-init c = λ count same before. before

pub loop-access-preserved : goal.loop-access-preserved
loop-access-preserved c = λ count same before.
    let node = c.args.node in
    let k = c.loop-access.access in
    let covers = c.args.covers.now in
    let most = c.loop-access.most in
    let n = get_or covers k 0 in
    let is = same k ∙ slice_get-get_or covers k 0 c.loop-access-test.true in
    let so_far = c.loop-access.invariant count same before in
    elim c.if-count-count_of.branch [
      | then-count-count_of w ↦
          let more : most_count most < n = omega (arith, w.if-count-count_of.true, c.count_of.ensures) in
          subst (λ m. IsMostAmong count (λ x a. Precedes x a node (k + 1)) m) (sym w.most-is) (most-grows count node k most so_far n is more)
      | else-count-count_of w ↦
          let less : n ≤ most_count most = omega (arith, w.if-count-count_of.false, c.count_of.ensures) in
          subst (λ m. IsMostAmong count (λ x a. Precedes x a node (k + 1)) m) (sym w.most-is) (most-stays count node k most so_far n is less)
    ]

pub returns : goal.returns
returns c = λ count same before.
    let node = c.args.node in
    let k = c.loop-access.access in
    let covers = c.args.covers.now in
    next-node count node k c.loop-access.most
    (λ x a n at e. let lt = slice_get_within covers a n (sym (same a) ∙ subst (λ y. count y a ≡ Some n) e at) in omega (arith, lt, c.loop-access-test.false))
    (c.loop-access.invariant count same before)
