use Rattle.conflict_pairs.proofs.Likeness.{CoverAlikeTo}
use Rattle.conflict_pairs.proofs.alike.have_same_covers.Given as goal

-- the accesses so far are alike where they may cover
abbrev pub invariant-loop-k : goal.invariant-loop-k
invariant-loop-k l = CoverAlikeTo l.xs l.ys l.k
