use Rattle.std.proofs.Common.{◌≡◌, ℕ, ◌<◌, ◌≤◌, length}
use Rattle.conflict_pairs.specs.Classes.{HasMark}
use Rattle.conflict_pairs.proofs.classes.firsts_of.Given as goal

-- each access from `n` on has the first of its class among these
abbrev pub invariant-loop-n : goal.invariant-loop-n
invariant-loop-n l = record {
  size : length l.firsts.items ≡ l.count;
  within : l.n ≤ length l.numbers;
  marked : (n : ℕ) → l.n ≤ n → n < length l.numbers → HasMark (λ n first. first ≤ n) l.numbers l.firsts.items n;
}

abbrev pub decreases-loop-n : goal.decreases-loop-n
decreases-loop-n l = l.n
