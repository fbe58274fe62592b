use Rattle.std.proofs.Common.{◌≡◌, ◌≤◌, ◌+◌, ◌++◌, length, string_bytes, string_capacity, string_len}
use Rattle.std.specs.Prelude.{All}
use Rattle.robust_cert.specs.Pieces.{next_entries_text}
use Rattle.robust_cert.specs.Sharing.{entries_told, HasReason}
use Rattle.robust_cert.proofs.text.next_entries.put_entries.Given as goal

-- what is written and the entries that are left are all, and there is room for one of them
abbrev pub invariant-loop-next : goal.invariant-loop-next
invariant-loop-next l = record {
  text : string_bytes l.text ++ next_entries_text (entries_told l.reasons l.left) ≡ string_bytes l.initial.text ++ next_entries_text (entries_told l.reasons l.told);
  within : All (HasReason l.reasons) l.left;
  room : string_len l.text + l.room ≤ string_capacity l.text;
  capacity : string_capacity l.initial.text ≤ string_capacity l.text;
  most : length l.left ≤ length l.told;
}

abbrev pub decreases-loop-next : goal.decreases-loop-next
decreases-loop-next l = length l.left
