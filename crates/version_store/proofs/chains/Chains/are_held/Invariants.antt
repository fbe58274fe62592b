use Rattle.version_store.specs.Reading.{AllRise}
use Rattle.version_store.specs.Regions.{seen_left, left_between}
use Rattle.version_store.proofs.FoundLaws.{Matches, found_rows}
use Rattle.version_store.proofs.chains.Chains.are_held.Given as goal

abbrev pub invariant-loop-cell : goal.invariant-loop-cell
invariant-loop-cell l = AllRise l.self → Matches (left_between l.region l.own l.start) (found_rows (seen_left l.region l.own l.start) l.self) l.cell-iterator l.rest l.rows
