use Rattle.std.proofs.Common.{◌≡◌, length}
use Rattle.std.specs.Prelude.{All}
use Rattle.robust_cert.specs.Slates.{IsWide}
use Rattle.robust_cert.proofs.text.slates.Slates.of.Given as goal

-- there is a slate for each number so far, and they have room
abbrev pub invariant-loop : goal.invariant-loop
invariant-loop l = record {
  count : length l.all.items ≡ l.counter;
  wide : All (IsWide l.bytes) l.all.items;
}
