use Rattle.dep_graph.proofs.Exposing.{none_before-more, some_left, least-from_access}
use Rattle.dep_graph.proofs.danger.first_exposure.Goals as goal

pub returns-in-Some : goal.returns-in-Some
returns-in-Some c = least-from_access c.args.paths.now c.args.x c.args.y c.loop-a.a c.in-Some.exposure c.loop-a.invariant (rw c.in-Some.is at c.in_ok-exposure.ensures.found)

pub loop-a-preserved : goal.loop-a-preserved
loop-a-preserved c = none_before-more c.args.paths.now c.args.x c.args.y c.loop-a.a c.loop-a.invariant (rw c.in_default.is at c.in_ok-exposure.ensures.none)

pub unreachable-requires : goal.unreachable-requires
unreachable-requires c =
    some_left c.args.paths.now c.args.x c.args.y c.requires.vulnerable c.accesses_of-count.result.now c.accesses_of-count.ensures c.loop-a.a c.loop-a-test.false c.loop-a.invariant
