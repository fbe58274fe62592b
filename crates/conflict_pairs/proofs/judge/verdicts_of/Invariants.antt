use Rattle.std.proofs.Common.{◌≡◌, ◌≤◌, length, take, vec_len, vec_capacity}
use Rattle.std.specs.Prelude.{All}
use Rattle.conflict_pairs.specs.Alike.{IsOnAsked}
use Rattle.conflict_pairs.specs.Sharing.{AreServedSoFar}
use Rattle.conflict_pairs.proofs.judge.verdicts_of.Given as goal

-- each pair so far has the number of a verdict on its question, and each other pair has room for one
abbrev pub invariant-loop-k : goal.invariant-loop-k
invariant-loop-k l = record {
  sound : All (IsOnAsked l.paths) l.values.items;
  served : AreServedSoFar l.paths l.places l.values.items (take l.k l.pairs) l.numbers.items;
  one_each : vec_len l.numbers ≡ l.k;
  room : length l.pairs ≤ vec_capacity l.numbers;
}
