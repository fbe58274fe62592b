use Rattle.std.proofs.Common.{ℕ, ◌≤◌}
use Rattle.version_store.specs.Blocks.{AreTrue}
use Rattle.version_store.specs.Reading.{AllRise}
use Rattle.version_store.proofs.ShareLaws.{AreLeft, Shares}
use Rattle.version_store.proofs.blocks.Blocks.scan.Given as goal

abbrev pub invariant-loop-slot : goal.invariant-loop-slot
invariant-loop-slot l = record {
  among : AreLeft l.self l.slot-iterator;
  shares : AllRise l.chains → (floor : ℕ) → floor ≤ l.start → AreTrue floor l.chains l.self → Shares l.region l.start l.chains l.left l.pieces.items;
}
