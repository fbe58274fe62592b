use Rattle.std.proofs.Common.{◌≡◌, ◌<◌, ◌≤◌, length, map, ℕ}
use Rattle.prog_tree.specs.Tree.{comparison_tree}
use Rattle.prog_text.specs.Reading.{after_sign, comparison_at, conjunction_at, many_from}
use Rattle.prog_text.proofs.reading.conditions.conjunction.Given as goal
use Rattle.prog_text.specs.declared.lexing.token.Sign.TheVariants as sign

-- reading on from here gives what reading the whole gives
abbrev pub invariant-loop-all : goal.invariant-loop-all
invariant-loop-all l = record {
  n : ℕ;
  enough : length l.cursor.tokens.now ≤ n;
  shorter : length l.cursor.tokens.now < length l.fn.cursor.tokens.now;
  same : many_from (after_sign sign.And) comparison_at n (map comparison_tree l.all.items) l.cursor.tokens.now ≡ conjunction_at l.fn.cursor.tokens.now;
}

abbrev pub decreases-loop-all : goal.decreases-loop-all
decreases-loop-all l = length l.cursor.tokens.now
