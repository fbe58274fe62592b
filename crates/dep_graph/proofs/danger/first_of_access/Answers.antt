use Rattle.dep_graph.proofs.Exposing.{none_more, none_left}
use Rattle.dep_graph.proofs.danger.first_of_access.Goals as goal

pub loop-b-preserved : goal.loop-b-preserved
loop-b-preserved c = none_more c.args.paths.now c.args.x c.args.a c.args.y c.loop-b.b c.loop-b.invariant (rw c.in_default.is at c.in_ok-exposure.ensures.none)

pub returns-clause-none : goal.returns-clause-none
returns-clause-none c =
    none_left c.args.paths.now c.args.x c.args.a c.args.y c.accesses_of-count.result.now c.accesses_of-count.ensures c.loop-b.b c.loop-b-test.false c.loop-b.invariant
