use Rattle.std.proofs.Common.{◌≤◌, ◌+◌, length, take, vec_len, vec_capacity}
use Rattle.conflict_pairs.specs.ClassPairs.{AddsRow}
use Rattle.conflict_pairs.proofs.class_pairs.push_row.Given as goal

-- the pairs with the places so far are added, and for each of the others there is room
abbrev pub invariant-loop-second : goal.invariant-loop-second
invariant-loop-second l = record {
  row : AddsRow l.classes.places.items l.number (take l.second-index l.seconds) l.fn.pairs.items l.pairs.items;
  room : vec_len l.pairs + length l.seconds ≤ vec_capacity l.pairs + l.second-index;
}
