use Rattle.std.proofs.Common.{◌≡◌, ◌++◌, length}
use Rattle.si_engine.specs.Lines.{words_of}
use Rattle.si_engine.proofs.input.line_words.line_words.Given as goal

-- the words that were found, and those of the bytes that are left, are all of them
abbrev pub invariant-loop-word : goal.invariant-loop-word
invariant-loop-word l = l.words.items ++ words_of l.rest ≡ words_of l.line

abbrev pub decreases-loop-word : goal.decreases-loop-word
decreases-loop-word l = length l.rest
