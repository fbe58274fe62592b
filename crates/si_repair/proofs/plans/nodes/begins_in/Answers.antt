use Rattle.std.proofs.Common.{refl, arith}
use Rattle.std.proofs.lemmas.Bool.{false≢true, both_ways}
use Rattle.si_repair.specs.Planning.{GoesOnIn}
use Rattle.si_repair.proofs.Searching.{any-more, any-here, any-end}
use Rattle.si_repair.proofs.plans.nodes.begins_in.Goals as goal

pub loop-x-preserved : goal.loop-x-preserved
loop-x-preserved c =
    any-more (λ x. GoesOnIn c.args.graph.now x c.args.seconds.now c.args.thirds.now) c.args.firsts.now c.loop-x.x-index 0 (omega arith) c.loop-x.invariant
    (λ h. both_ways c.goes_on_in.result c.if-goes_on_in.false (c.goes_on_in.ensures.1 h))

pub returns-then-goes_on_in : goal.returns-then-goes_on_in
returns-then-goes_on_in c = (λ e. any-here (λ x. GoesOnIn c.args.graph.now x c.args.seconds.now c.args.thirds.now) c.args.firsts.now c.loop-x.x-index 0 (omega arith) (c.goes_on_in.ensures.0 c.if-goes_on_in.true), λ h. refl)

pub returns : goal.returns
returns c = (λ e. absurd (false≢true e), λ h. absurd (any-end (λ x. GoesOnIn c.args.graph.now x c.args.seconds.now c.args.thirds.now) c.args.firsts.now c.loop-x.x-index (omega arith) c.loop-x.invariant h))
