use Rattle.std.proofs.Common.{◌≡◌, ◌<◌, ◌≤◌, length, map, ℕ}
use Rattle.prog_tree.specs.Tree.{clause_tree}
use Rattle.prog_text.specs.Reading.{after_sign, conjunction_at, test_at, many_from}
use Rattle.prog_text.proofs.reading.conditions.test.Given as goal
use Rattle.prog_text.specs.declared.lexing.token.Sign.TheVariants as sign

-- reading on from here gives what reading the whole gives
abbrev pub invariant-loop-any : goal.invariant-loop-any
invariant-loop-any l = record {
  n : ℕ;
  enough : length l.cursor.tokens.now ≤ n;
  shorter : length l.cursor.tokens.now < length l.fn.cursor.tokens.now;
  same : many_from (after_sign sign.Or) conjunction_at n (map clause_tree l.any.items) l.cursor.tokens.now ≡ test_at l.fn.cursor.tokens.now;
}

abbrev pub decreases-loop-any : goal.decreases-loop-any
decreases-loop-any l = length l.cursor.tokens.now
