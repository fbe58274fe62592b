-- The columns of the program's code as those of the definition.
use Rattle.prog_check.specs.Accesses as check
use Rattle.prog_paths.specs.declared.path.columns.Columns.{Columns}

abbrev pub columns_with : Columns → check.Columns
columns_with c = record { first = c.first; second = c.second; next = c.next }
