use Rattle.std.proofs.Common.{arith}
use Rattle.conflict_pairs.proofs.Likeness.{cover_alike-more, covers-all}
use Rattle.conflict_pairs.proofs.alike.have_same_covers.Goals as goal

pub loop-k-preserved : goal.loop-k-preserved
loop-k-preserved c = cover_alike-more c.args.xs.now c.args.ys.now c.loop-k.k _ _ (c.cover_alike.ensures c.if-not-cover_alike.false) c.loop-k.invariant

pub returns : goal.returns
returns c = λ _. covers-all c.args.xs.now c.args.ys.now c.loop-k.k (omega arith) (omega arith) c.loop-k.invariant
