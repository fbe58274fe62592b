use Rattle.std.proofs.Common.{arith}
use Rattle.order_facts.proofs.Choices.{IsSampled-sample_number, IsValuationOfI64-valuation_of, Meets-valuation_of}
use Rattle.order_facts.proofs.sample.Sample.of.Goals as goal

pub returns-clause-nearest : goal.returns-clause-nearest
returns-clause-nearest c = IsSampled-sample_number c.args.facts.now c.loop-fact.choices.items c.requires.consistent c.loop-fact.invariant.sampled (λ k h. c.loop-fact.invariant.ends k (omega arith))

pub returns-clause-meets : goal.returns-clause-meets
returns-clause-meets c =
    let fs = c.args.facts.now in
    let choices = c.loop-fact.choices.items in
    let s = IsSampled-sample_number fs choices c.requires.consistent c.loop-fact.invariant.sampled (λ k h. c.loop-fact.invariant.ends k (omega arith)) in
    (IsValuationOfI64-valuation_of fs choices s, Meets-valuation_of fs choices s)
