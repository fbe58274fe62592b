use Rattle.std.proofs.Common.{◌∙◌, ◌++◌, ap, refl, subst, sym}
use Rattle.std.specs.List.Sorted.{IsStrictlySortedBy}
use Rattle.prog_tree.specs.Table.{cell_cmp, Cells, cells_of, TableState, row_held}
use Rattle.version_store.specs.Regions.{seen_anywhere, IsSeen}
use Rattle.version_store.specs.StandsFor.{VersionChain}
use Rattle.version_store.proofs.FoundLaws.{gains_all, gains_more, gained_of, found_rows}
use Rattle.version_store.proofs.chains.Chains.state_rows.Goals as goal

pub loop-cell-init : goal.loop-cell-init
loop-cell-init c =
    let all = c.into_iter-cell-iterator.ensures.into_iter_gives ∙ c.iter-cell-items.ensures.rest in
    rw (← c.self.view_is, c.in_ok-rows.ensures.items)
    (λ rise. gains_all (seen_anywhere c.args.start) c.self.inside.chains.entries c.into_iter-cell-iterator.result c.iter-cell-items.ensures.ordered rise all)

pub loop-cell-preserved : goal.loop-cell-preserved
loop-cell-preserved c = λ rise.
    gains_more (seen_anywhere c.args.start) (found_rows (seen_anywhere c.args.start) c.args.self.now) c.loop-cell.cell-iterator c.next.new.self c.in-Some.cell.now c.in-Some.chain.now c.loop-cell.rows.items c.push_row.new.rows.items
    c.in-Some.ensures.steps (c.loop-cell.invariant rise)
    (λ rises. c.in_ok-push_row.ensures ∙ ap (λ o. c.loop-cell.rows.items ++ row_held c.in-Some.cell.now o) (c.value_at.ensures rises))

pub returns : goal.returns
returns c = λ rise.
    let sorted = subst (λ (es : Cells VersionChain). IsStrictlySortedBy cell_cmp (cells_of es)) c.self.view_is c.iter-cell-items.ensures.ordered in
    subst (λ (m : TableState). IsSeen (seen_anywhere c.args.start) c.args.self.now m) (sym c.from_vec.ensures)
    (gained_of (seen_anywhere c.args.start) (seen_anywhere c.args.start) (λ cell. refl) c.args.self.now c.loop-cell.cell-iterator c.loop-cell.rows.items sorted c.in-None.ensures.steps.0 (c.loop-cell.invariant rise))
