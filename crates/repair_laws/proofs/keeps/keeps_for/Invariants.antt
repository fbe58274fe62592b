use Rattle.std.proofs.Common.{◌≡◌, map, take}
use Rattle.prog_tree.specs.Syntax.{Plain}
use Rattle.prog_tree.specs.Tree.{stmt_tree}
use Rattle.repair_laws.specs.Materialised.{keep_in}
use Rattle.repair_laws.proofs.keeps.keeps_for.Given as goal

abbrev pub invariant-loop-column : goal.invariant-loop-column
invariant-loop-column l = map stmt_tree l.keeps.items ≡ map Plain (map (keep_in l.new_table.table l.params) (take l.column-index l.column-items))
