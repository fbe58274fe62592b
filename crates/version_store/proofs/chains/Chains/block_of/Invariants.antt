use Rattle.std.proofs.Common.{ℕ, ◌≤◌, ◌<◌}
use Rattle.version_store.specs.Blocks.{last_u64}
use Rattle.version_store.specs.Reading.{AllRise}
use Rattle.version_store.specs.Regions.{seen_in, seen_between}
use Rattle.version_store.proofs.FoundLaws.{Gains, IsLeft, found_rows}
use Rattle.version_store.proofs.chains.Chains.block_of.Given as goal

abbrev pub invariant-loop-cell : goal.invariant-loop-cell
invariant-loop-cell l = record {
  says : AllRise l.self → (n : ℕ) → l.since ≤ n → n < l.till → Gains (seen_between l.region n) (found_rows (seen_in l.region n) l.self) l.cell-iterator l.rows.items;
  walk : AllRise l.self → IsLeft l.cell-iterator;
  start : AllRise l.self → l.start < last_u64 → (l.since ≤ l.start) × (l.start < l.till);
}
