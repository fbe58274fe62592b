use Rattle.std.proofs.Common.{◌≡◌, ◌++◌, map, take}
use Rattle.repair_laws.specs.declared.plan.NewTable.{NewTable}
use Rattle.repair_laws.specs.Materialised.{plain_table}
use Rattle.repair_laws.proofs.front.with_tables.Given as goal

abbrev pub invariant-loop-new_table : goal.invariant-loop-new_table
invariant-loop-new_table l = l.all.items ≡ l.fn.tables ++ map (λ (m : NewTable). plain_table m.table) (take l.new_table-index l.made)
