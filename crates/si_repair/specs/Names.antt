-- The names that tables have, new ones counted.
use Rattle.std.specs.Prelude.{List, ◌++◌, map}
use Rattle.prog_tree.specs.Syntax.{Name, DraftTree}
use Rattle.prog_check.specs.Faults.{table_names}
use Rattle.repair_laws.specs.declared.plan.NewTable.{NewTable}

-- the names of new tables
abbrev pub new_names : List NewTable → List Name
new_names made = map (λ m. m.table) made

-- the names that no further table may have
abbrev pub taken_names : DraftTree → List NewTable → List Name
taken_names draft made = table_names draft ++ new_names made
