use Rattle.std.proofs.Common.{◌≡◌, length, arith, below_more}
use Rattle.std.specs.Prelude.{Some, slice_get}
use Rattle.std.proofs.lemmas.Option.{slice_get_within}
use Rattle.prog_paths.specs.Shown.{Falls}
use Rattle.conflict_pairs.specs.Search.{FallsBetween, FoundWithin}
use Rattle.conflict_pairs.proofs.Falling.{IfSome-either, own_end}
use Rattle.conflict_pairs.proofs.apart.falling_from.Goals as goal

pub loop-to-preserved : goal.loop-to-preserved
loop-to-preserved c =
    let facts = c.args.closed.now in
    let ends = c.args.ends.now in
    let new = c.shorter-best.result in
    let own = own_end facts c.args.from ends c.loop-to.to-index _ c.in_ok-falling_chain.field-0 c.in_ok-falling_chain.ensures.all in
    record {
      some = IfSome-either (λ chain. Falls facts chain) new _ _ c.shorter-best.ensures.either c.loop-to.invariant.some c.in_ok-falling_chain.ensures.some;
      all = λ k to inside.
          below_more (λ k. slice_get ends k ≡ Some to → (h : FallsBetween facts c.args.from to) → FoundWithin new (length h.chain)) c.loop-to.to-index
          (λ k l at h. c.shorter-best.ensures.one (length h.chain) (c.loop-to.invariant.all k to l at h))
          (λ at h. c.shorter-best.ensures.other (length h.chain) (own to at h)) k inside;
    }

pub returns-clause-all : goal.returns-clause-all
returns-clause-all c = λ k to at h. let l = slice_get_within c.args.ends.now k to at in c.loop-to.invariant.all k to (omega (arith, l, c.loop-to-test.false)) at h
