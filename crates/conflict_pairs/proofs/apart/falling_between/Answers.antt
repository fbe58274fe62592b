use Rattle.std.proofs.Common.{◌≡◌, length, arith, below_more}
use Rattle.std.specs.Prelude.{Some, slice_get}
use Rattle.std.proofs.lemmas.Option.{slice_get_within}
use Rattle.prog_paths.specs.Shown.{Falls}
use Rattle.conflict_pairs.specs.Search.{FallsBetween, FoundWithin}
use Rattle.conflict_pairs.proofs.Falling.{IfSome-either, own_start}
use Rattle.conflict_pairs.proofs.apart.falling_between.Goals as goal

pub loop-from-preserved : goal.loop-from-preserved
loop-from-preserved c =
    let facts = c.args.closed.now in
    let starts = c.args.starts.now in
    let ends = c.args.ends.now in
    let new = c.shorter-best.result in
    let own = own_start facts starts ends c.loop-from.from-index _ c.in_ok-falling_from.field-0 c.in_ok-falling_from.ensures.all in
    record {
      some = IfSome-either (λ chain. Falls facts chain) new _ _ c.shorter-best.ensures.either c.loop-from.invariant.some c.in_ok-falling_from.ensures.some;
      all = λ i k from to inside.
          below_more (λ i. slice_get starts i ≡ Some from → slice_get ends k ≡ Some to → (h : FallsBetween facts from to) → FoundWithin new (length h.chain)) c.loop-from.from-index
          (λ i l at_from at_to h. c.shorter-best.ensures.one (length h.chain) (c.loop-from.invariant.all i k from to l at_from at_to h))
          (λ at_from at_to h. c.shorter-best.ensures.other (length h.chain) (own from at_from k to at_to h)) i inside;
    }

pub returns-clause-all : goal.returns-clause-all
returns-clause-all c = λ i k from to at_from at_to h. let l = slice_get_within c.args.starts.now i from at_from in c.loop-from.invariant.all i k from to (omega (arith, l, c.loop-from-test.false)) at_from at_to h
