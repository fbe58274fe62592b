use Rattle.std.proofs.Common.{◌∙◌, sym, subst}
use Rattle.std.specs.List.Sorted.{IsStrictlySortedBy}
use Rattle.prog_tree.specs.Table.{cell_cmp}
use Rattle.prog_tree.proofs.SearchLaws.{no_fall}
use Rattle.serial_orders.proofs.trace.changed_cells.Goals as goal

pub from_vec-requires : goal.from_vec-requires
from_vec-requires c = no_fall c.in_ok-cells.cells.items c.in_ok-cells.ensures.ordered

pub returns-clause-cells : goal.returns-clause-cells
returns-clause-cells c = c.from_vec.ensures ∙ c.in_ok-cells.ensures.cells

pub returns-clause-ordered : goal.returns-clause-ordered
returns-clause-ordered c = subst (IsStrictlySortedBy cell_cmp) (sym c.from_vec.ensures) c.in_ok-cells.ensures.ordered
