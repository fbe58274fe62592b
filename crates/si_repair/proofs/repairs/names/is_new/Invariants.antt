use Rattle.std.proofs.Common.{◌≡◌, false, take}
use Rattle.std.specs.List.{list_any}
use Rattle.si_repair.proofs.Naming.{has_name}
use Rattle.si_repair.proofs.repairs.names.is_new.Given as goal

-- none of the tables so far has the name
abbrev pub invariant-loop-new_table : goal.invariant-loop-new_table
invariant-loop-new_table l = list_any (has_name l.name) (take l.new_table-index l.made) ≡ false
