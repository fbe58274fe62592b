use Rattle.std.proofs.Common.{◌≡◌, ◌<◌, ◌≤◌, length, ℕ}
use Rattle.prog_text.specs.Reading.{after_sign, name_at, many_from, names_at}
use Rattle.prog_text.proofs.reading.sets.names.Given as goal
use Rattle.prog_text.specs.declared.lexing.token.Sign.TheVariants as sign

-- reading on from here gives what reading the whole gives
abbrev pub invariant-loop-names : goal.invariant-loop-names
invariant-loop-names l = record {
  n : ℕ;
  enough : length l.cursor.tokens.now ≤ n;
  shorter : length l.cursor.tokens.now < length l.fn.cursor.tokens.now;
  same : many_from (after_sign sign.Comma) name_at n l.names.items l.cursor.tokens.now ≡ names_at l.fn.cursor.tokens.now;
}

abbrev pub decreases-loop-names : goal.decreases-loop-names
decreases-loop-names l = length l.cursor.tokens.now
