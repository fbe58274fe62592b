use Rattle.std.proofs.Common.{◌≡◌, ◌++◌}
use Rattle.prog_tree.specs.ChangeSet.{changes_in}
use Rattle.prog_run.proofs.region.own_changes.Given as goal

abbrev pub invariant-loop-cell : goal.invariant-loop-cell
invariant-loop-cell l = l.own.items ++ changes_in l.region l.cell-iterator ≡ changes_in l.region l.changes.cells
