use Rattle.std.proofs.Common.{refl, arith}
use Rattle.std.proofs.lemmas.Bool.{false≢true, both_ways}
use Rattle.si_repair.specs.Planning.{EndsIn}
use Rattle.si_repair.proofs.Searching.{any-more, any-here, any-end}
use Rattle.si_repair.proofs.plans.nodes.goes_on_in.Goals as goal

pub loop-y-preserved : goal.loop-y-preserved
loop-y-preserved c =
    any-more (λ y. EndsIn c.args.graph.now c.args.x y c.args.thirds.now) c.args.seconds.now c.loop-y.y-index 0 (omega arith) c.loop-y.invariant
    (λ h. both_ways c.ends_in.result c.if-ends_in.false (c.ends_in.ensures.1 h))

pub returns-then-ends_in : goal.returns-then-ends_in
returns-then-ends_in c = (λ e. any-here (λ y. EndsIn c.args.graph.now c.args.x y c.args.thirds.now) c.args.seconds.now c.loop-y.y-index 0 (omega arith) (c.ends_in.ensures.0 c.if-ends_in.true), λ h. refl)

pub returns : goal.returns
returns c = (λ e. absurd (false≢true e), λ h. absurd (any-end (λ y. EndsIn c.args.graph.now c.args.x y c.args.thirds.now) c.args.seconds.now c.loop-y.y-index (omega arith) c.loop-y.invariant h))
