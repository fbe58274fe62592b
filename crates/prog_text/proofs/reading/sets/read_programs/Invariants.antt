use Rattle.std.proofs.Common.{◌≡◌, ◌≤◌, length, map, ℕ}
use Rattle.prog_tree.specs.Tree.{program_tree}
use Rattle.prog_text.specs.Reading.{after_sign, program_at, many_from, programs_at}
use Rattle.prog_text.proofs.reading.sets.read_programs.Given as goal
use Rattle.prog_text.specs.declared.lexing.token.Sign.TheVariants as sign

-- reading on from here gives what reading the whole gives
abbrev pub invariant-loop-programs : goal.invariant-loop-programs
invariant-loop-programs l = record {
  n : ℕ;
  enough : length l.cursor.tokens.now ≤ n;
  same : many_from (after_sign sign.Program) program_at n (map program_tree l.programs.items) l.cursor.tokens.now ≡ programs_at l.fn.cursor.tokens.now;
}

abbrev pub decreases-loop-programs : goal.decreases-loop-programs
decreases-loop-programs l = length l.cursor.tokens.now
