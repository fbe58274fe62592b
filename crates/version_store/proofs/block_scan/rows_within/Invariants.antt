use Rattle.version_store.proofs.PartLaws.{Keeps}
use Rattle.version_store.proofs.block_scan.rows_within.Given as goal

abbrev pub invariant-loop-row : goal.invariant-loop-row
invariant-loop-row l = Keeps l.region l.rows l.row-index l.kept.items
