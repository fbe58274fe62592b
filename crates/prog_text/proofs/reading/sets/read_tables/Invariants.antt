use Rattle.std.proofs.Common.{◌≡◌, ◌≤◌, length, ℕ}
use Rattle.prog_text.specs.Reading.{after_sign, table_at, many_from, tables_at}
use Rattle.prog_text.proofs.reading.sets.read_tables.Given as goal
use Rattle.prog_text.specs.declared.lexing.token.Sign.TheVariants as sign

-- reading on from here gives what reading the whole gives
abbrev pub invariant-loop-tables : goal.invariant-loop-tables
invariant-loop-tables l = record {
  n : ℕ;
  enough : length l.cursor.tokens.now ≤ n;
  same : many_from (after_sign sign.Table) table_at n l.tables.items l.cursor.tokens.now ≡ tables_at l.fn.cursor.tokens.now;
}

abbrev pub decreases-loop-tables : goal.decreases-loop-tables
decreases-loop-tables l = length l.cursor.tokens.now
