use Rattle.std.proofs.Common.{◌≡◌, ◌≤◌, length}
use Rattle.si_engine.specs.Lines.{words_of}
use Rattle.si_engine.proofs.input.line_words.first_word.Given as goal

-- no word stands before the bytes that are left, which are no more than all
abbrev pub invariant-loop-rest : goal.invariant-loop-rest
invariant-loop-rest l = record {
  words : words_of l.rest ≡ words_of l.line;
  within : length l.rest ≤ length l.line;
}

abbrev pub decreases-loop-rest : goal.decreases-loop-rest
decreases-loop-rest l = length l.rest
