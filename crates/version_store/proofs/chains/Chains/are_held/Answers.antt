use Rattle.std.proofs.Common.{◌≡◌, ◌∙◌, subst}
use Rattle.std.specs.Prelude.{filter}
use Rattle.std.specs.List.Sorted.{IsStrictlySortedBy}
use Rattle.prog_tree.specs.declared.cell.Cell.{Cell}
use Rattle.prog_tree.specs.Table.{cell_cmp, Cells, cells_of}
use Rattle.prog_tree.specs.Corners.{is_between}
use Rattle.version_store.specs.Regions.{seen_left, left_between}
use Rattle.version_store.specs.StandsFor.{VersionChain}
use Rattle.version_store.proofs.FoundLaws.{matches_first, matches_more, mismatch, matched, unmatched, empty_is, left_is, left_nothing, found_rows}
use Rattle.version_store.proofs.chains.Chains.are_held.Goals as goal

pub returns-in_default : goal.returns-in_default
returns-in_default c = λ rise m h.
    empty_is c.args.rows.now m c.is_empty.result c.is_empty.ensures (left_nothing c.args.region.now c.args.own.now c.args.start c.args.self.now c.in_default.ensures m h)

pub loop-cell-init : goal.loop-cell-init
loop-cell-init c =
    let chains = c.self.inside.chains.entries in
    let ends = c.new.ensures in
    let between : c.into_iter-cell-iterator.result ≡ filter (λ (e : Cell × VersionChain). is_between c.in-Some.low c.in-Some.high e.0) chains =
    c.into_iter-cell-iterator.ensures.into_iter_gives ∙ c.range-cell-items.ensures.between ends.exhausted
    ∙ (λ i. filter (λ (e : Cell × VersionChain). is_between (ends.start i) (ends.end i) e.0) chains) in
    rw (← c.self.view_is, c.walk-rest.ensures)
    (λ rise. matches_first c.args.region.now c.args.own.now c.args.start c.in-Some.low c.in-Some.high chains c.into_iter-cell-iterator.result c.args.rows.now
    c.range-cell-items.ensures.ordered rise c.in-Some.ensures between)

pub loop-cell-preserved : goal.loop-cell-preserved
loop-cell-preserved c = λ rise.
    matches_more (left_between c.args.region.now c.args.own.now c.args.start) (found_rows (seen_left c.args.region.now c.args.own.now c.args.start) c.args.self.now) c.loop-cell.cell-iterator c.next.new.self c.in-Some-2.cell.now c.in-Some-2.chain.now
    c.left_between-found.result c.loop-cell.rest c.in-Some-rows_behind.after c.args.rows.now
    c.in-Some-2.ensures.steps (c.loop-cell.invariant rise) c.left_between-found.ensures c.in-Some-rows_behind.ensures

pub returns-in_default-rows_behind : goal.returns-in_default-rows_behind
returns-in_default-rows_behind c = λ rise m h.
    let all = found_rows (seen_left c.args.region.now c.args.own.now c.args.start) c.args.self.now in
    let sorted = subst (λ (es : Cells VersionChain). IsStrictlySortedBy cell_cmp (cells_of es)) c.self.view_is c.range-cell-items.ensures.ordered in
    unmatched c.args.rows.now all m (left_is c.args.region.now c.args.own.now c.args.start c.args.self.now sorted m h)
    (mismatch (left_between c.args.region.now c.args.own.now c.args.start) all c.loop-cell.cell-iterator c.next.new.self c.in-Some-2.cell.now c.in-Some-2.chain.now
    c.left_between-found.result c.loop-cell.rest c.args.rows.now c.in-Some-2.ensures.steps (c.loop-cell.invariant rise) c.left_between-found.ensures c.in_default-rows_behind.ensures)

pub returns : goal.returns
returns c = λ rise m h.
    let sorted = subst (λ (es : Cells VersionChain). IsStrictlySortedBy cell_cmp (cells_of es)) c.self.view_is c.range-cell-items.ensures.ordered in
    matched (left_between c.args.region.now c.args.own.now c.args.start) (found_rows (seen_left c.args.region.now c.args.own.now c.args.start) c.args.self.now) c.loop-cell.cell-iterator c.loop-cell.rest c.args.rows.now m c.is_empty-2.result
    c.in-None.ensures.steps.0 (c.loop-cell.invariant rise) (left_is c.args.region.now c.args.own.now c.args.start c.args.self.now sorted m h) c.is_empty-2.ensures
