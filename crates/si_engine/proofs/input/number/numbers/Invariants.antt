use Rattle.std.proofs.Common.{◌≡◌, ◌≤◌, ◌++◌, drop, length, option_map, vec_len, vec_capacity}
use Rattle.si_engine.specs.Numbers.{numbers_of}
use Rattle.si_engine.proofs.input.number.numbers.Given as goal

-- the numbers that were read, in front of those of the words that are left, are the numbers of all, and each has room
abbrev pub invariant-loop-word : goal.invariant-loop-word
invariant-loop-word l = record {
  all : option_map (λ ns. l.numbers.items ++ ns) (numbers_of (drop l.word-index l.words)) ≡ numbers_of l.words;
  one_each : vec_len l.numbers ≡ l.word-index;
  room : length l.words ≤ vec_capacity l.numbers;
}
