use Rattle.std.proofs.Common.{◌≡◌, ℕ, ◌≤◌, length, zip}
use Rattle.prog_text.specs.Lexing.{tokens_from, tokens_of}
use Rattle.prog_text.proofs.Cutting.{joined}
use Rattle.prog_text.proofs.lexing.lexer.tokens.Given as goal

-- the tokens that are done, and those of the bytes that are left, are all of them
abbrev pub invariant-loop-rest : goal.invariant-loop-rest
invariant-loop-rest l = record {
  n : ℕ;
  enough : length l.rest ≤ n;
  rows : length l.tokens.items ≡ length l.lefts.items;
  same : joined (zip l.tokens.items l.lefts.items) (tokens_from n l.rest) ≡ tokens_of l.bytes;
}

abbrev pub decreases-loop-rest : goal.decreases-loop-rest
decreases-loop-rest l = length l.rest
