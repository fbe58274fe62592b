use Rattle.std.proofs.Common.{◌≡◌, ◌≤◌, ◌+◌, ◌++◌, drop, string_bytes, string_capacity, string_len}
use Rattle.robust_cert.specs.Pieces.{entries_room, next_entries_text}
use Rattle.robust_cert.specs.Sharing.{entries_told}
use Rattle.robust_cert.proofs.text.next_entries.put_all.Given as goal

-- what is written and the entries that are left are all, and there is room for them
abbrev pub invariant-loop-next : goal.invariant-loop-next
invariant-loop-next l = record {
  text : string_bytes l.text ++ next_entries_text (entries_told l.reasons (drop l.next-index l.told)) ≡ string_bytes l.initial.text ++ next_entries_text (entries_told l.reasons l.told);
  room : string_len l.text + entries_room l.reasons (drop l.next-index l.told) ≤ string_capacity l.text;
  capacity : string_capacity l.initial.text ≤ string_capacity l.text;
}
