use Rattle.std.proofs.Common.{◌≡◌, ◌∙◌, ◌++◌, ap, subst, sym}
use Rattle.std.specs.Prelude.{filter}
use Rattle.std.specs.List.Sorted.{IsStrictlySortedBy}
use Rattle.prog_tree.specs.declared.cell.Cell.{Cell}
use Rattle.prog_tree.specs.Table.{cell_cmp, Cells, cells_of, TableState, row_held}
use Rattle.prog_tree.specs.Corners.{is_between}
use Rattle.version_store.specs.Regions.{seen_in, seen_between, IsSeen}
use Rattle.version_store.specs.StandsFor.{VersionChain}
use Rattle.version_store.proofs.FoundLaws.{gains_first, gains_more, gained, gained_nothing, found_rows}
use Rattle.version_store.proofs.chains.Chains.scan.Goals as goal

pub returns-in_default : goal.returns-in_default
returns-in_default c = λ rise.
    subst (λ (m : TableState). IsSeen (seen_in c.args.region.now c.args.start) c.args.self.now m) (sym (c.from_vec.ensures ∙ c.in_ok-rows.ensures.items))
    (gained_nothing c.args.region.now c.args.start c.args.self.now c.in_default.ensures)

pub loop-cell-init : goal.loop-cell-init
loop-cell-init c =
    let chains = c.self.inside.chains.entries in
    let ends = c.new.ensures in
    let between : c.into_iter-cell-iterator.result ≡ filter (λ (e : Cell × VersionChain). is_between c.in-Some.low c.in-Some.high e.0) chains =
    c.into_iter-cell-iterator.ensures.into_iter_gives ∙ c.range-cell-items.ensures.between ends.exhausted
    ∙ (λ i. filter (λ (e : Cell × VersionChain). is_between (ends.start i) (ends.end i) e.0) chains) in
    rw (← c.self.view_is, c.in_ok-rows.ensures.items)
    (λ rise. gains_first c.args.region.now c.args.start c.in-Some.low c.in-Some.high chains c.into_iter-cell-iterator.result c.range-cell-items.ensures.ordered rise c.in-Some.ensures between)

pub loop-cell-preserved : goal.loop-cell-preserved
loop-cell-preserved c = λ rise.
    gains_more (seen_between c.args.region.now c.args.start) (found_rows (seen_in c.args.region.now c.args.start) c.args.self.now) c.loop-cell.cell-iterator c.next.new.self c.in-Some-2.cell.now c.in-Some-2.chain.now c.loop-cell.rows.items c.push_row.new.rows.items
    c.in-Some-2.ensures.steps (c.loop-cell.invariant rise)
    (λ rises. c.in_ok-push_row.ensures ∙ ap (λ o. c.loop-cell.rows.items ++ row_held c.in-Some-2.cell.now o) (c.seen_between-found.ensures rises))

pub returns : goal.returns
returns c = λ rise.
    let sorted = subst (λ (es : Cells VersionChain). IsStrictlySortedBy cell_cmp (cells_of es)) c.self.view_is c.range-cell-items.ensures.ordered in
    subst (λ (m : TableState). IsSeen (seen_in c.args.region.now c.args.start) c.args.self.now m) (sym (c.from_vec-2.ensures ∙ c.shrink_to_fit.ensures.items))
    (gained c.args.region.now c.args.start c.args.self.now c.loop-cell.cell-iterator c.loop-cell.rows.items sorted c.in-None.ensures.steps.0 (c.loop-cell.invariant rise))
