use Rattle.prog_paths.proofs.Covering.{CoversFirst-found, covers_none-more, covers_none-all}
use Rattle.prog_paths.proofs.accesses.covers.least_cover.Goals as goal
use Rattle.std.proofs.Common.{arith}

pub returns-in-Some-clause-some : goal.returns-in-Some-clause-some
returns-in-Some-clause-some c =
    CoversFirst-found c.args.closed.now c.args.mine.now c.args.theirs.now c.loop-m.m c.in-Some.t _ (omega arith) c.loop-m.invariant c.in-Some.ensures.some c.in-Some.ensures.first

pub loop-m-preserved : goal.loop-m-preserved
loop-m-preserved c =
    covers_none-more c.args.closed.now c.args.mine.now c.args.theirs.now c.loop-m.m _ (omega arith) c.loop-m.invariant c.in_default.ensures.none

pub returns-clause-none : goal.returns-clause-none
returns-clause-none c =
    covers_none-all c.args.closed.now c.args.mine.now c.args.theirs.now c.loop-m.m (omega arith) c.loop-m.invariant
