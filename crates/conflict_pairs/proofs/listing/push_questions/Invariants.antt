use Rattle.std.proofs.Common.{◌≤◌, ◌+◌, length, take, vec_len, vec_capacity}
use Rattle.conflict_pairs.specs.Listed.{AddsQuestions}
use Rattle.conflict_pairs.proofs.listing.push_questions.Given as goal

-- the questions to the places so far are added, and for each of those that are left there is room
abbrev pub invariant-loop-second : goal.invariant-loop-second
invariant-loop-second l = record {
  added : AddsQuestions l.classes l.number l.answers l.fn.listed l.listed (take l.second-index l.seconds);
  room_of_pairs : vec_len l.listed.pairs + length l.seconds ≤ vec_capacity l.listed.pairs + l.second-index;
  room_of_numbers : vec_len l.listed.numbers + length l.seconds ≤ vec_capacity l.listed.numbers + l.second-index;
}
