use Rattle.version_store.specs.Reading.{AllRise}
use Rattle.version_store.specs.Regions.{seen_anywhere}
use Rattle.version_store.proofs.FoundLaws.{Gains, found_rows}
use Rattle.version_store.proofs.chains.Chains.state_rows.Given as goal

abbrev pub invariant-loop-cell : goal.invariant-loop-cell
invariant-loop-cell l = AllRise l.self → Gains (seen_anywhere l.start) (found_rows (seen_anywhere l.start) l.self) l.cell-iterator l.rows.items
