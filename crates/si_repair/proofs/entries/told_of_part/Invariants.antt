use Rattle.std.proofs.Common.{◌≡◌, ◌≤◌, ◌++◌, drop, length, vec_len, vec_capacity}
use Rattle.std.specs.Prelude.{All}
use Rattle.robust_cert.specs.Sharing.{entries_told, HasReason}
use Rattle.si_repair.specs.Certificates.{told_of}
use Rattle.si_repair.proofs.entries.told_of_part.Given as goal

-- what is told so far, with what the entries that are left tell, for each of which there is room
abbrev pub invariant-loop-n : goal.invariant-loop-n
invariant-loop-n l = record {
  entries : entries_told l.given.values.items l.told.items ++ told_of (drop l.n l.part.entries) ≡ told_of l.part.entries;
  within : All (HasReason l.given.values.items) l.told.items;
  len : vec_len l.told ≤ l.n;
  room : length l.part.entries ≤ vec_capacity l.told;
}
