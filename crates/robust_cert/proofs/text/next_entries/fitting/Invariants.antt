use Rattle.std.proofs.Common.{◌≡◌, ◌+◌, take}
use Rattle.robust_cert.specs.Pieces.{entries_room}
use Rattle.robust_cert.proofs.text.next_entries.fitting.Given as goal

-- the entries so far take what is no longer left
abbrev pub invariant-loop-count : goal.invariant-loop-count
invariant-loop-count l = l.left + entries_room l.reasons (take l.count l.told) ≡ l.bytes
