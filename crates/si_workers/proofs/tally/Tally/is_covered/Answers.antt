use Rattle.std.proofs.Common.{rules}
use Rattle.si_workers.proofs.TallyLemmas.{covered_more}
use Rattle.si_workers.proofs.tally.Tally.is_covered.Goals as goal

pub loop-key-preserved : goal.loop-key-preserved
loop-key-preserved g c =
    covered_more g.K.Ord.cmp c.loop-key.key-iterator c.next.new.self c.args.self.now c.args.other.now c.in-Some.key.now c.count.result c.in-Some.count.now
    c.in-Some.ensures.steps c.count.ensures (search rules) c.loop-key.invariant
