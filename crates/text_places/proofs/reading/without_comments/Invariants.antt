use Rattle.std.proofs.Common.{◌≡◌, ◌≤◌, ◌++◌, drop, false, length, vec_len, vec_capacity}
use Rattle.text_places.specs.Reading.{blank_from}
use Rattle.text_places.proofs.reading.without_comments.Given as goal

-- the bytes so far and what is left are the whole, and each byte that is left has room
abbrev pub invariant-loop-byte : goal.invariant-loop-byte
invariant-loop-byte l = record {
  whole : l.blanked.items ++ blank_from l.is_open (drop l.byte-index l.text) ≡ blank_from false l.text;
  one_each : vec_len l.blanked ≡ l.byte-index;
  room : length l.text ≤ vec_capacity l.blanked;
}
