use Rattle.std.proofs.Common.{◌≡◌, length}
use Rattle.conflict_pairs.proofs.Spreading.{SpreadsUpTo}
use Rattle.conflict_pairs.proofs.listing.spread.Given as goal

-- the pairs of the row so far are entered
abbrev pub invariant-loop-k : goal.invariant-loop-k
invariant-loop-k l = record {
  size : length l.answers.items ≡ length l.fn.answers.items;
  entered : SpreadsUpTo l.classes l.pairs l.of_pairs l.fn.row l.answers.items l.k;
}
