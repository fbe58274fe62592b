use Rattle.std.proofs.Common.{◌≡◌, ℕ, ◌<◌, ◌≤◌, length}
use Rattle.conflict_pairs.specs.Classes.{HasMark}
use Rattle.conflict_pairs.proofs.classes.lasts_of.Given as goal

-- each access before `n` has the last of its class among these
abbrev pub invariant-loop-n : goal.invariant-loop-n
invariant-loop-n l = record {
  size : length l.lasts.items ≡ l.count;
  marked : (n : ℕ) → n < l.n → n < length l.numbers → HasMark (λ n last. n ≤ last) l.numbers l.lasts.items n;
}
