use Rattle.std.proofs.Common.{◌≡◌, sym, subst, arith, of_z, to_z, w64}
use Rattle.std.proofs.lemmas.Int.{ints, clamps}
use Rattle.order_facts.specs.Sample.{IsSampled}
use Rattle.order_facts.proofs.Sampling.{IsSampled-from_bounds}
use Rattle.order_facts.proofs.sample.nearest_number.Goals as goal

pub returns : goal.returns
returns c =
    let e : to_z w64 (of_z w64 c.max.result) ≡ c.max.result = omega (arith, ints) in
    subst (λ z. IsSampled c.args.facts.now c.args.node z) (sym e) (IsSampled-from_bounds c.args.facts.now c.args.node c.low_bound.result c.high_bound.result c.max.result c.requires.consistent c.low_bound.ensures.below c.low_bound.ensures.greatest c.high_bound.ensures.above c.high_bound.ensures.least (omega (arith, ints, clamps)))
