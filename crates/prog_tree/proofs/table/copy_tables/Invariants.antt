use Rattle.std.proofs.Common.{◌≡◌, take}
use Rattle.prog_tree.proofs.table.copy_tables.Given as goal

abbrev pub invariant-loop-table : goal.invariant-loop-table
invariant-loop-table l = l.copies.items ≡ take l.table-index l.tables
