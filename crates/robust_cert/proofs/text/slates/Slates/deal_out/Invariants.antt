use Rattle.std.proofs.Common.{◌≡◌, ◌<◌, ◌++◌, ℕ, length, take}
use Rattle.std.specs.Prelude.{All}
use Rattle.robust_cert.specs.Sharing.{HasReason}
use Rattle.robust_cert.specs.Slates.{CanWrite, KeepsWidth, slates_entries}
use Rattle.robust_cert.proofs.text.slates.Slates.deal_out.Given as goal

-- the slates so far have what is no longer left, and can be written
abbrev pub invariant-loop-n : goal.invariant-loop-n
invariant-loop-n l = record {
  all : slates_entries (take l.n l.self.all.items) ++ l.left ≡ l.told;
  room : All (CanWrite l.reasons l.tails) (take l.n l.self.all.items);
  count : length l.self.all.items ≡ length l.initial.self.all.items;
  wide : KeepsWidth l.initial.self.all.items l.self.all.items;
  within : All (HasReason l.reasons) l.left;
  fewer : 0 < l.n → 0 < length l.told → length l.left < length l.told;
}
