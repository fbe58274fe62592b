use Rattle.std.proofs.Common.{◌∙◌, List, ap, sym, subst}
use Rattle.std.specs.List.Sorted.{IsSorted}
use Rattle.prog_tree.specs.declared.cell.Cell.{Cell}
use Rattle.prog_tree.specs.Table.{cell_cmp, is_cell_among}
use Rattle.prog_tree.proofs.SearchLaws.{found_among}
use Rattle.prog_tree.proofs.rising.RisingCells.contains.Goals as goal

pub returns : goal.returns
returns c =
    let cells = c.as_slice-cells.result.now in
    let rise = subst (IsSorted cell_cmp) (sym c.as_slice-cells.ensures) c.self.invariant in
    c.is_ok.ensures.value
    ∙ found_among cells c.args.cell.now c.binary_search.result rise c.binary_search.ensures.bound c.binary_search.ensures.position
    ∙ ap (λ (own : List Cell). is_cell_among own c.args.cell.now) (c.as_slice-cells.ensures ∙ c.self.view_is)
