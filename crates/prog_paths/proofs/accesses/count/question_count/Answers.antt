use Rattle.std.proofs.Common.{◌≡◌, ℕ, ◌+◌, ◌<◌, ◌∙◌, List, Option, length, min, ap, sym, subst, arith}
use Rattle.prog_paths.specs.declared.accesses.places.Placed.{Placed}
use Rattle.prog_paths.specs.Places.{all_from}
use Rattle.prog_paths.specs.Questions.{asked_among}
use Rattle.prog_paths.specs.Limits.{most_questions}
use Rattle.prog_paths.proofs.Walked.{before, left, none_before, before-none, count_more, less_left}
use Rattle.prog_paths.proofs.accesses.count.question_count.Goals as goal

pub loop-next-init : goal.loop-next-init
loop-next-init c =
    let places = all_from 0 c.args.paths.now in
    let none' = none_before c.next_table-next.result places places c.next_table-next.ensures.all in
    omega (arith, none')

pub loop-next-preserved : goal.loop-next-preserved
loop-next-preserved c =
    let places = all_from 0 c.args.paths.now in
    let old = subst (λ (n : Option ℕ). c.loop-next.count ≡ min (length (asked_among (before n places) places)) (most_questions + 1)) c.in-Some.is c.loop-next.invariant in
    count_more c.in-Some.table c.next_table-next-in-Some.result places c.tally_of.result c.loop-next.count c.sum-count.result c.next_table-next-in-Some.ensures.all c.tally_of.ensures.tally old c.sum-count.ensures

pub loop-next-smaller : goal.loop-next-smaller
loop-next-smaller c =
    subst (λ (n : Option ℕ). left c.next_table-next-in-Some.result < left n) (sym c.in-Some.is)
    (less_left c.in-Some.table c.next_table-next-in-Some.result c.tally_of.ensures.fits c.next_table-next-in-Some.ensures.rises)

pub returns : goal.returns
returns c =
    let places = all_from 0 c.args.paths.now in
    let list = ap (λ (n : Option ℕ). before n places) c.in_default.is ∙ before-none places in
    c.loop-next.invariant ∙ ap (λ (l : List Placed). min (length (asked_among l places)) (most_questions + 1)) list
