use Rattle.std.proofs.Common.{sym, subst}
use Rattle.std.specs.List.Sorted.{IsSorted}
use Rattle.prog_tree.specs.Table.{cell_cmp}
use Rattle.prog_tree.proofs.rising.RisingCells.from_vec.Goals as goal

pub invariant_of-result : goal.invariant_of-result
invariant_of-result c = subst (IsSorted cell_cmp) (sym c.from_vec.ensures) c.requires
