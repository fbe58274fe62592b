use Rattle.std.proofs.Common.{◌≡◌, map, take}
use Rattle.std.specs.List.{flat_map}
use Rattle.prog_tree.specs.Syntax.{Plain}
use Rattle.prog_tree.specs.Tree.{stmt_tree}
use Rattle.repair_laws.specs.Materialised.{keeps_for}
use Rattle.repair_laws.proofs.front.front_of.Given as goal

abbrev pub invariant-loop-new_table : goal.invariant-loop-new_table
invariant-loop-new_table l = map stmt_tree l.front.items ≡ map Plain (flat_map (keeps_for l.program l.params) (take l.new_table-index l.made))
