use Rattle.std.proofs.Common.{[], sym, subst}
use Rattle.std.specs.List.Sorted.{IsSorted}
use Rattle.prog_tree.specs.Table.{cell_cmp}
use Rattle.prog_tree.proofs.SearchLaws.{no_fall}
use Rattle.prog_tree.proofs.TableStates.{IsTableState-nil}
use Rattle.prog_tree.proofs.rising.RisingCells.new.Goals as goal

pub invariant_of-result : goal.invariant_of-result
invariant_of-result c = subst (IsSorted cell_cmp) (sym c.new.ensures) (no_fall [] IsTableState-nil)
